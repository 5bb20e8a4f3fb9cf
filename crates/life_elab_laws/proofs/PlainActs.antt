-- What is done to an owner that has come to life, where no list builds it: it makes no temporaries, and looks at nothing but what was found before.
use Rattle.std.proofs.Common.{◌≡◌, inl, inr, ℕ, List, [], ◌∷◌, ◌++◌, length, refl, ap, ◌∙◌, subst, append_assoc}
use Rattle.life_types.specs.declared.place.Place.{Place}
use Rattle.life_core.specs.Operands.{Characters, Location, Operand, Single, View, Whole, whole}
use Rattle.life_core.specs.Step.{Aim, Append, Change, Changes, Copy, Set}
use Rattle.life_core.specs.Tree.{Acts, Tree, trees}
use Rattle.life_writer.specs.Characters.{Seen, InRegister, InString, InView, changed_by, concatenated}
use Rattle.life_writer.specs.Giving.{copied}
use Rattle.life_writer.specs.OwnerForms.{copied_at, set_to, standing}
use Rattle.life_writer.specs.Uses.{Act}
use Rattle.life_writer.specs.Writing.{State}
use Rattle.life_elab_laws.proofs.Among.{Among, among_either, among_left, among_right}
use Rattle.life_elab_laws.proofs.GivenApart.{parts_of}
use Rattle.life_elab_laws.proofs.LookedLocals.{looked_change, looked_of, looked_place, looked_spot}

-- of what may be looked at by it, where the variables are what they were
pub record IsPlainAct (act : Act) (names : List ℕ) (steady : State → Type 0) : Type 0 where
  pub free : (place : Place) (to : Operand) (s : State) (pending : List ℕ) → act place to (record s { pending = pending }) ≡ record (act place to s) { pending = pending }
  pub kept : (place : Place) (to : Operand) (s : State) (living : List ℕ) → act place to (record s { living = living }) ≡ record (act place to s) { living = living }
  pub code : Place → Operand → State → List Tree
  pub written : (place : Place) (to : Operand) (s : State) → (act place to s).code ≡ s.code ++ code place to s
  pub looks : (place : Place) (to : Operand) (s : State) → steady s → (y : ℕ) → Among y (looked_of (trees (code place to s))) → Among y names

nil_right : (xs : List ℕ) (y : ℕ) → Among y (xs ++ []) → Among y xs
nil_right xs y m = elim (among_either xs [] y m) [ inl h ↦ h | inr none ↦ absurd none ]

-- ---- a copy

pub copied_plain : (steady : State → Type 0) (from : Operand) → IsPlainAct (copied from) [] steady
copied_plain steady from = record {
  free = λ place to s pending. refl;
  kept = λ place to s living. refl;
  code = λ place to s. Acts place (Copy to from) ∷ [];
  written = λ place to s. refl;
  looks = λ place to s still y m. m;
}

pub copied_at_plain : (steady : State → Type 0) (at : Place) (from : Operand) → IsPlainAct (copied_at at from) [] steady
copied_at_plain steady at from = record {
  free = λ place to s pending. refl;
  kept = λ place to s living. refl;
  code = λ place to s. Acts at (Copy to from) ∷ [];
  written = λ place to s. refl;
  looks = λ place to s still y m. m;
}

-- ---- what a view sees

pub set_plain : (steady : State → Type 0) (view : Location) → IsPlainAct (set_to view) [] steady
set_plain steady view = record {
  free = λ place to s pending. refl;
  kept = λ place to s living. refl;
  code = λ place to s. Acts place (Changes to (Set (View view))) ∷ [];
  written = λ place to s. refl;
  looks = λ place to s still y m. m;
}

pub standing_plain : (steady : State → Type 0) (at : Place) (view : Location) → IsPlainAct (standing at (set_to view)) [] steady
standing_plain steady at view = record {
  free = λ place to s pending. refl;
  kept = λ place to s living. refl;
  code = λ place to s. Acts at (Changes to (Set (View view))) ∷ [];
  written = λ place to s. refl;
  looks = λ place to s still y m. m;
}

-- ---- two texts

abbrev pub seen_names : Seen → List ℕ
seen_names (InString place o) = looked_place o
seen_names (InView l) = []
seen_names (InRegister r) = []

module _ (change : Characters → Change) (quiet : (to : Operand) (c : Characters) → looked_change to (change c) ≡ []) where
  changed_free : (at : Place) (x : Seen) (to : Operand) (s : State) (pending : List ℕ) → changed_by change at x to (record s { pending = pending }) ≡ record (changed_by change at x to s) { pending = pending }
  changed_free at (InString place o) to s pending = refl
  changed_free at (InView l) to s pending = refl
  changed_free at (InRegister r) to s pending = refl

  changed_kept : (at : Place) (x : Seen) (to : Operand) (s : State) (living : List ℕ) → changed_by change at x to (record s { living = living }) ≡ record (changed_by change at x to s) { living = living }
  changed_kept at (InString place o) to s living = refl
  changed_kept at (InView l) to s living = refl
  changed_kept at (InRegister r) to s living = refl

  changed_code : Place → Seen → Operand → State → List Tree
  changed_code at (InString place o) to s = Acts place (Aim (whole (length s.locals)) (Whole o)) ∷ Acts at (Changes to (change (View (whole (length s.locals))))) ∷ []
  changed_code at (InView l) to s = Acts at (Changes to (change (View l))) ∷ []
  changed_code at (InRegister r) to s = Acts at (Changes to (change (Single r))) ∷ []

  changed_written : (at : Place) (x : Seen) (to : Operand) (s : State) → (changed_by change at x to s).code ≡ s.code ++ changed_code at x to s
  unfolding changed_code
  changed_written at (InString place o) to s =
      append_assoc s.code (Acts place (Aim (whole (length s.locals)) (Whole o)) ∷ []) (Acts at (Changes to (change (View (whole (length s.locals))))) ∷ [])
  changed_written at (InView l) to s = refl
  changed_written at (InRegister r) to s = refl

  quietly : (to : Operand) (c : Characters) (y : ℕ) → Among y (looked_change to (change c) ++ []) → ⊥
  quietly to c y m = subst (Among y) (quiet to c) (nil_right (looked_change to (change c)) y m)

  changed_looks : (at : Place) (x : Seen) (to : Operand) (s : State) (y : ℕ) → Among y (looked_of (trees (changed_code at x to s))) → Among y (seen_names x)
  unfolding changed_code
  changed_looks at (InString place o) to s y m = elim (among_either (looked_place o) (looked_change to (change (View (whole (length s.locals)))) ++ []) y m) [
    | inl h ↦ h
    | inr more ↦ absurd (quietly to (View (whole (length s.locals))) y more)
  ]
  changed_looks at (InView l) to s y m = quietly to (View l) y m
  changed_looks at (InRegister r) to s y m = quietly to (Single r) y m

set_quiet : (to : Operand) (c : Characters) → looked_change to (Set c) ≡ []
set_quiet to c = refl

append_quiet : (to : Operand) (c : Characters) → looked_change to (Append c) ≡ []
append_quiet to c = refl

pub joined_plain : (steady : State → Type 0) (at : Place) (x y : Seen) → IsPlainAct (concatenated at x y) (seen_names x ++ seen_names y) steady
joined_plain steady at x y = record {
  free = λ place to s pending.
      ap (λ (r : State). changed_by Append at y to r) (changed_free Set set_quiet at x to s pending) ∙ changed_free Append append_quiet at y to (changed_by Set at x to s) pending;
  kept = λ place to s living.
      ap (λ (r : State). changed_by Append at y to r) (changed_kept Set set_quiet at x to s living) ∙ changed_kept Append append_quiet at y to (changed_by Set at x to s) living;
  code = λ place to s. changed_code Set set_quiet at x to s ++ changed_code Append append_quiet at y to (changed_by Set at x to s);
  written = λ place to s.
      changed_written Append append_quiet at y to (changed_by Set at x to s)
      ∙ ap (λ (c : List Tree). c ++ changed_code Append append_quiet at y to (changed_by Set at x to s)) (changed_written Set set_quiet at x to s)
      ∙ append_assoc s.code (changed_code Set set_quiet at x to s) (changed_code Append append_quiet at y to (changed_by Set at x to s));
  looks = λ place to s still z m.
      elim (among_either (looked_of (trees (changed_code Set set_quiet at x to s))) (looked_of (trees (changed_code Append append_quiet at y to (changed_by Set at x to s)))) z
      (subst (Among z) (parts_of looked_spot (changed_code Set set_quiet at x to s) (changed_code Append append_quiet at y to (changed_by Set at x to s))) m)) [
        | inl h ↦ among_left (seen_names x) (seen_names y) z (changed_looks Set set_quiet at x to s z h)
        | inr h ↦ among_right (seen_names x) (seen_names y) z (changed_looks Append append_quiet at y to (changed_by Set at x to s) z h)
      ];
}
