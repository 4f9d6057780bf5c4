use Rattle.std.proofs.Common.{◌≡◌, rules}
use Rattle.entries.specs.Legality.{legal}
use Rattle.entries.proofs.Judged.{legal_told}
use Rattle.entries.proofs.shapes.Entry.is_legal.Goals as goal

pub returns-then-has_legal_tag : goal.returns-then-has_legal_tag
returns-then-has_legal_tag c =
    let e : c.has_legal_chain.result ≡ legal c.args.self.now = search rules in
    record { by_the_rule = e; exactly_when_legal = legal_told c.args.self.now c.has_legal_chain.result e }
