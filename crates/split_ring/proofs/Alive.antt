-- A ring is either alive, with lists in it, or it does nothing; what a call leaves is told from these two ends.
use Rattle.std.proofs.Common.{◌≡◌, ℕ, Bool, true, false, not, ◌&&◌, eqb, None, Option, sym, refl, ap, ◌∙◌, subst}
use Rattle.std.proofs.lemmas.Bool.{eq-eqb, ne_eqb}
use Rattle.entries.specs.declared.refusals.Refusal.{Refusal}
use Rattle.entries.specs.Refusals.{refuse}
use Rattle.queue.specs.Meaning.{Meaning}
use Rattle.queue.specs.Laws.{Leaves}
use Rattle.split_ring.specs.Ring.{Ring, alive, means_at, nothing, ring_ops}
use Rattle.split_ring.specs.Sound.{Shape, Live, Idle, sound_at, ring_sound}
use Rattle.split_ring.proofs.Lending.{serves_true}
use Rattle.split_ring.proofs.Holding.{meant, means_these}

abbrev pub LeavesRing : Ring → Meaning → Type 0
LeavesRing = Leaves ring_sound ring_ops.means

pub shape_alive : (r : Ring) → Shape r → alive r ≡ true
shape_alive r s = serves_true s.serves

pub live_means : (r : Ring) (l : Live r) → ring_ops.means r ≡ meant r l
live_means r l = ap (λ b. means_at b r) (shape_alive r l.shape) ∙ means_these r l

pub live_leaves : (r : Ring) (m : Meaning) (l : Live r) → meant r l ≡ m → LeavesRing r m
live_leaves r m l e = record {
  meaning = live_means r l ∙ e;
  still_sound = subst (λ b. sound_at b r) (sym (shape_alive r l.shape)) l;
}

pub idle_leaves : (r later : Ring) → alive r ≡ false → Idle r → later ≡ r → LeavesRing later nothing
idle_leaves r later a i e = subst (λ (x : Ring). LeavesRing x nothing) (sym e) (record {
  meaning = ap (λ b. means_at b r) a;
  still_sound = subst (λ b. sound_at b r) (sym a) i;
})

-- what holds of both kinds of ring holds of every sound one
pub by_life : (r : Ring) (P : Meaning → Type 0) → ((l : Live r) → alive r ≡ true → P (meant r l)) → (Idle r → alive r ≡ false → P nothing) → ring_sound r → P (ring_ops.means r)
by_life r P f g s = go (alive r) refl s
  where
    go : (b : Bool) → alive r ≡ b → sound_at b r → P (means_at (alive r) r)
    go true a l = subst P (sym (live_means r l)) (f l a)
    go false a i = subst P (sym (ap (λ b. means_at b r) a)) (g i a)

-- the test of two positions, where one is read off the region
pub differ : (a : Bool) (x y z : ℕ) → a ≡ true → y ≡ z → (x ≡ z → ⊥) → (a && not (eqb x y)) ≡ true
differ a x y z h e n = ap (λ b. b && not (eqb x y)) h ∙ ap not (ne_eqb x y (λ q. n (q ∙ e)))

pub agree : (a : Bool) (x y z : ℕ) → y ≡ z → x ≡ z → (a && not (eqb x y)) ≡ false
agree a x y z e q = ap (λ b. a && not b) (eq-eqb x y (q ∙ sym e)) ∙ none a
  where
    none : (a : Bool) → (a && false) ≡ false
    none true = refl
    none false = refl

-- no refusal fitted
pub passed : (n : Refusal) (b : Bool) (o : Option Refusal) → refuse n b o ≡ None → (b ≡ false) × (o ≡ None)
passed n false o h = (refl, h)
passed n true o h = absurd cc

pub both : (x y : Bool) → (x && y) ≡ true → (x ≡ true) × (y ≡ true)
both true y h = (refl, h)
both false y h = absurd cc
