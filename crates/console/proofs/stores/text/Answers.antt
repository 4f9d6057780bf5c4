use Rattle.std.proofs.Common.{◌-◌, min, length, take, drop, Ok, sym, ap, ◌∙◌, arith, rules}
use Rattle.std.proofs.lemmas.Bool.Decides.{nat_tests}
use Rattle.entries.specs.Refusals.{unless}
use Rattle.class.specs.Refusals.{store_refusal}
use Rattle.class.proofs.Carries.{accepted}
use Rattle.console.specs.declared.stores.Counts.{Counts}
use Rattle.console.specs.Service.{kept_in}
use Rattle.console.specs.Log.{text_in}
use Rattle.console.proofs.Grows.{grows, cut_at_end}
use Rattle.console.proofs.stores.text.Goals as goal

pub returns : goal.returns
returns c =
    let store = c.args.store.now in
    let cut = c.text_within.ensures.kept_text ∙ ap (λ (x : Counts). take (min x.kept (length store - 8)) (drop 8 store)) c.of-kept.ensures.both ∙ cut_at_end store (kept_in store) in
    let clear = (accepted (store_refusal 8 c.args.store.now) c.in_ok-check_store.field-0 tt c.in_ok-check_store.ensures.smallest_that_fits).0 in
    record { kept_text = ap Ok cut ∙ ap (λ o. unless o (text_in c.args.store.now)) (sym clear); grows_by_what_fits = λ line sound. grows c.args.store.now line c.of-kept.ensures.in_32_bits sound }

pub returns-in_err-check_store : goal.returns-in_err-check_store
returns-in_err-check_store c = record { kept_text = search rules; grows_by_what_fits = λ line sound. let never : ⊥ = grind (arith, nat_tests) in absurd never }
