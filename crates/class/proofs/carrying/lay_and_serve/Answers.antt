use Rattle.std.proofs.Common.{◌≡◌, ℕ, true, List, get_or, refl, ap, rules}
use Rattle.std.proofs.lemmas.Bool.{both_ways}
use Rattle.class.specs.Kinds.{asked, Sized}
use Rattle.class.proofs.Carries.{Chain, same_reply, same_data, same_store, same_cell, rest_stays}
use Rattle.class.proofs.carrying.lay_and_serve.Goals as goal

pub returns : goal.returns
returns g c =
    let fit : Sized (asked c.args.request) = search rules in
    let steps : Chain g.C.Class.kind c.args.tag (asked c.args.request) c.args.cell.now c.args.store.now
    c.in_ok-entry.entry c.lay.new.cell c.in_ok-written.written c.serve.new.cell c.serve.new.store c.in_ok-status.status = record {
      room = c.requires;
      lay_answer = c.in_ok-entry.ensures.answer;
      lay_cell = c.in_ok-entry.ensures.later_cell;
      serve_answer = c.in_ok-written.ensures.answer;
      serve_cell = c.in_ok-written.ensures.later_cell;
      serve_store = c.in_ok-written.ensures.later_store;
      status_answer = c.in_ok-status.ensures.answer;
    } in
    let law = g.met.C.Class.lawful in
    record {
      plain_service = record {
        plain_reply = same_reply _ law _ _ _ _ fit _ _ _ _ _ _ steps;
        plain_data = λ _. same_data _ law _ _ _ _ fit _ _ _ _ _ _ steps;
        plain_store = same_store _ law _ _ _ _ fit _ _ _ _ _ _ steps;
        nothing_else_touched = rest_stays _ law _ _ _ _ fit _ _ _ _ _ _ steps;
        later_cell = same_cell _ law _ _ _ _ fit _ _ _ _ _ _ steps;
        refusal_changes_nothing = λ e. absurd (both_ways true e refl);
      };
    }

pub returns-in_err-entry : goal.returns-in_err-entry
returns-in_err-entry g c =
    let same : c.lay.new.cell ≡ c.args.cell.now = search rules in
    record {
      plain_service = record {
        plain_reply = search rules;
        plain_data = search rules;
        plain_store = search rules;
        nothing_else_touched = λ i h. ap (λ (x : List ℕ). get_or x i 0) same;
        later_cell = search rules;
        refusal_changes_nothing = λ _. (same, refl);
      };
    }

pub returns-in_err-written : goal.returns-in_err-written
returns-in_err-written g c =
    let never : ⊥ = search rules in absurd never
