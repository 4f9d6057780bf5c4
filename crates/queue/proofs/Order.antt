-- First in, first out, over every list of calls.
use Rattle.std.proofs.Common.{◌≡◌, ℕ, ◌+◌, ◌≤◌, List, [], ◌∷◌, ◌++◌, length, Some, None, Option, refl, ◌∙◌, append_assoc, arith}
use Rattle.std.proofs.lemmas.Grind.{common_steps}
use Rattle.entries.specs.declared.refusals.Refusal.{Refusal}
use Rattle.entries.specs.declared.shapes.Entry.{Entry}
use Rattle.entries.specs.Refusals.{unless, kept}
use Rattle.queue.specs.declared.calls.Call.{Call}
use Rattle.queue.specs.declared.calls.Call.TheVariants.{Publish, Take, Finish, Collect, Arm, Hush}
use Rattle.queue.specs.declared.values.Finished.{Finished}
use Rattle.queue.specs.Meaning.{Meaning}
use Rattle.queue.specs.Rules.{oldest, publish_refusal, appended, takes, finish_refusal, finishes, collects}
use Rattle.queue.specs.Laws.{Ops, Laws}
use Rattle.queue.specs.Calls.{if_ok, if_found, after, TypedCall, entered, handed, told, returned, finished_with, left_over, InOrder, FirstInFirstOut}

-- what is finished, and what is left, of two lists of entries one after the other
left_none : (es : List Entry) → left_over es [] ≡ es
left_none [] = refl
left_none (e ∷ es) = refl

finished_none : (span : Entry → ℕ) (es : List Entry) → finished_with span es [] ≡ []
finished_none span [] = refl
finished_none span (e ∷ es) = refl

left_more : (xs ys : List Entry) (ns ks : List ℕ) → length ns ≤ length xs → left_over (xs ++ ys) (ns ++ ks) ≡ left_over (left_over xs ns ++ ys) ks
left_more xs ys [] ks h = grind (arith, left_none)
left_more [] ys (n ∷ ns) ks h = grind arith
left_more (x ∷ xs) ys (n ∷ ns) ks h = grind (arith, left_more xs ys ns ks)

finished_more : (span : Entry → ℕ) (xs ys : List Entry) (ns ks : List ℕ) → length ns ≤ length xs
    → finished_with span (xs ++ ys) (ns ++ ks) ≡ finished_with span xs ns ++ finished_with span (left_over xs ns ++ ys) ks
finished_more span xs ys [] ks h = grind (arith, common_steps, left_none, finished_none)
finished_more span [] ys (n ∷ ns) ks h = grind arith
finished_more span (x ∷ xs) ys (n ∷ ns) ks h = grind (arith, common_steps, finished_more span xs ys ns ks)

length-left : (xs : List Entry) (ns : List ℕ) → length ns ≤ length xs → length (left_over xs ns) + length ns ≡ length xs
length-left xs [] h = grind (arith, left_none)
length-left [] (n ∷ ns) h = grind arith
length-left (x ∷ xs) (n ∷ ns) h = grind (arith, length-left xs ns)

-- one stretch of calls after another
pub then : (m m₁ m₂ : Meaning) (es es' hs hs' : List Entry) (ns ns' : List ℕ) (fs fs' : List Finished)
    → InOrder m m₁ es hs ns fs → InOrder m₁ m₂ es' hs' ns' fs' → InOrder m m₂ (es ++ es') (hs ++ hs') (ns ++ ns') (fs ++ fs')
then m m₁ m₂ es es' hs hs' ns ns' fs fs' a b =
    let enough = a.none_finished_untaken in
    record {
      same_spans = b.same_spans ∙ a.same_spans;
      taken_in_order = grind (arith, common_steps, a.taken_in_order, b.taken_in_order);
      none_finished_untaken = grind (arith, common_steps, length-left (m.held ++ hs) ns, a.finished_in_order, b.none_finished_untaken);
      finished_in_order = grind (arith, common_steps, left_more (m.held ++ hs) hs' ns ns' enough, a.finished_in_order, b.finished_in_order);
      collected_in_order =
          grind (arith, append_assoc, finished_more m.span (m.held ++ hs) hs' ns ns' enough, a.collected_in_order, a.finished_in_order, b.collected_in_order, a.same_spans);
    }

-- nothing moves
pub still : (m later : Meaning) → later.span ≡ m.span → later.out ≡ m.out → later.held ≡ m.held → later.back ≡ m.back → InOrder m later [] [] [] []
still m later sp o h b = record {
  same_spans = sp;
  taken_in_order = grind (arith, common_steps);
  none_finished_untaken = omega arith;
  finished_in_order = grind (arith, common_steps, left_none);
  collected_in_order = grind (arith, common_steps, finished_none);
}

publish_step : (m : Meaning) (e : Entry) (o : Option Refusal) → InOrder m (kept o m (appended m e)) (if_ok (unless o tt) e) [] [] []
publish_step m e (Some n) = still m m refl refl refl refl
publish_step m e None = record {
  same_spans = refl;
  taken_in_order = refl;
  none_finished_untaken = omega arith;
  finished_in_order = grind (arith, common_steps, left_none);
  collected_in_order = grind (arith, common_steps, finished_none);
}

take_step : (m : Meaning) (out : List Entry) → m.out ≡ out → InOrder m (takes out m) [] (if_found (oldest out)) [] []
take_step m [] h = still m m refl refl refl refl
take_step m (e ∷ rest) h = record {
  same_spans = refl;
  taken_in_order = grind (arith, common_steps);
  none_finished_untaken = omega arith;
  finished_in_order = grind (arith, common_steps, left_none);
  collected_in_order = grind (arith, common_steps, finished_none);
}

finish_step : (m : Meaning) (n : ℕ) (held : List Entry) → m.held ≡ held → InOrder m (finishes held m n) [] [] (if_ok (unless (finish_refusal held) tt) n) []
finish_step m n [] h = still m m refl refl refl refl
finish_step m n (e ∷ rest) h = record {
  same_spans = refl;
  taken_in_order = grind (arith, common_steps);
  none_finished_untaken = grind (arith, common_steps);
  finished_in_order = grind (arith, common_steps, left_none);
  collected_in_order = grind (arith, common_steps, finished_none);
}

collect_step : (m : Meaning) (back : List Finished) → m.back ≡ back → InOrder m (collects back m) [] [] [] (if_found (oldest back))
collect_step m [] h = still m m refl refl refl refl
collect_step m (f ∷ rest) h = record {
  same_spans = refl;
  taken_in_order = grind (arith, common_steps);
  none_finished_untaken = omega arith;
  finished_in_order = grind (arith, common_steps, left_none);
  collected_in_order = grind (arith, common_steps, finished_none);
}

module _ {Q : Type 0} (sound : Q → Type 0) (ops : Ops Q) (law : Laws sound ops) where
  pub sound_after : (q : Q) (c : Call) → sound q → TypedCall c → sound (after ops q c)
  sound_after q (Publish e) s t = (law.publish_leaves q e s t).still_sound
  sound_after q Take s t = (law.take_leaves q s).still_sound
  sound_after q (Finish n) s t = (law.finish_leaves q n s t).still_sound
  sound_after q Collect s t = (law.collect_leaves q s).still_sound
  sound_after q (Arm x) s t = (law.arm_leaves q x s).still_sound
  sound_after q (Hush x) s t = (law.hush_leaves q x s).still_sound

  abbrev Step : Q → Call → Type 0
  Step q c = InOrder (ops.means q) (ops.means (after ops q c)) (entered ops q c) (handed ops q c) (told ops q c) (returned ops q c)

  step : (q : Q) (c : Call) → sound q → TypedCall c → Step q c
  step q (Publish e) s t = rw ((law.publish_leaves q e s t).meaning, law.publish_answers q e s) (publish_step (ops.means q) e (publish_refusal (ops.means q) e))
  step q Take s t = rw ((law.take_leaves q s).meaning, law.take_answers q s) (take_step (ops.means q) (ops.means q).out refl)
  step q (Finish n) s t = rw ((law.finish_leaves q n s t).meaning, law.finish_answers q s) (finish_step (ops.means q) n (ops.means q).held refl)
  step q Collect s t = rw ((law.collect_leaves q s).meaning, law.collect_answers q s) (collect_step (ops.means q) (ops.means q).back refl)
  step q (Arm x) s t = rw (law.arm_leaves q x s).meaning (still (ops.means q) _ refl refl refl refl)
  step q (Hush x) s t = rw (law.hush_leaves q x s).meaning (still (ops.means q) _ refl refl refl refl)

  pub first_in_first_out : (q : Q) → sound q → FirstInFirstOut ops q
  first_in_first_out q s [] t = still _ _ refl refl refl refl
  first_in_first_out q s (c ∷ cs) t =
      then _ _ _ _ _ _ _ _ _ _ _ (step q c s t.0) (first_in_first_out (after ops q c) (sound_after q c s t.0) cs t.1)
