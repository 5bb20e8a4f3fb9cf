-- A function that looks at nothing that it gives over leaves that alone.
use Rattle.std.proofs.Common.{◌≡◌, ℕ, Bool, true, false, ◌&&◌, not, nat_eq, flat_map, List, [], ◌∷◌, refl, sym, arith, inl, inr}
use Rattle.std.specs.List.{list_all, list_any}
use Rattle.std.proofs.lemmas.Bool.{and_from, and_parts, false≢true, or_cases}
use Rattle.std.proofs.lemmas.Bool.Decides.{nat_tests}
use Rattle.life_types.specs.Types.{Types}
use Rattle.life_core.specs.Function.{Function}
use Rattle.life_core.specs.Kinds.{is_object_at}
use Rattle.life_core.specs.Operands.{Argument, Value, GivenOver, PointerOf, Slot, Base, Operand, Name, Through, Source}
use Rattle.life_core.specs.Operands as source
use Rattle.life_core.specs.Step.{Step, Move, Aim, Element, Cursor, Changes, Call, Change, Erase}
use Rattle.life_core.specs.Tree.{Node, Action, Spot, spots}
use Rattle.life_proper.specs.GivenOver.{all_keep_given, given_in, is_kept, is_kept_argument, is_kept_base, is_kept_change, is_kept_place, is_kept_source, keeps_given, keeps_target, node_keeps_given, spot_keeps_given}
use Rattle.life_elab_laws.proofs.Among.{Among, among_left, among_right}
use Rattle.life_elab_laws.proofs.GivenApart.{given_of}
use Rattle.life_elab_laws.proofs.LookedLocals.{looked_argument, looked_base, looked_change, looked_node, looked_of, looked_place, looked_source, looked_spot, looked_step}
use Rattle.life_elab_laws.proofs.Shaping.{ends_lasting, keeps_its_target, node_keeps, spot_keeps, tree_keeps}

pub any_among : (x : ℕ) (xs : List ℕ) → list_any (nat_eq x) xs ≡ true → Among x xs
any_among x [] h = absurd (false≢true h)
any_among x (y ∷ xs) h = elim (or_cases (nat_eq x y) (list_any (nat_eq x) xs) h) [ inl e ↦ inl (sym (one x y e)) | inr more ↦ inr (any_among x xs more) ]
  where
    one : (a b : ℕ) → nat_eq a b ≡ true → a ≡ b
    one a b h = grind (arith, nat_tests)

module _ (types : Types) (f : Function) (apart : (x : ℕ) → is_object_at f x ≡ true → Among x (looked_of f.body) → Among x (given_of f.body) → ⊥) where
  abbrev Looks : List ℕ → Type 0
  Looks xs = (x : ℕ) → Among x xs → Among x (looked_of f.body)

  kept : (x : ℕ) → Among x (looked_of f.body) → is_kept types f x ≡ true
  kept x m = go (is_object_at f x) (list_any (nat_eq x) (given_in f)) refl refl
    where
      go : (b c : Bool) → is_object_at f x ≡ b → list_any (nat_eq x) (given_in f) ≡ c → not (b && c) ≡ true
      go true true object given = absurd (apart x object m (any_among x (given_in f) given))
      go true false object given = refl
      go false c object given = refl

  kept_place : (o : Operand) → Looks (looked_place o) → is_kept_place types f o ≡ true
  kept_place (Name l) h = kept l.local (h l.local (inl refl))
  kept_place (Through p members) h = refl

  kept_source : (s : Source) → Looks (looked_source s) → is_kept_source types f s ≡ true
  kept_source (source.Place o) h = kept_place o h
  kept_source (source.Whole o) h = kept_place o h
  kept_source (source.Get l) h = kept l.local (h l.local (inl refl))
  kept_source _ h = refl

  kept_base : (b : Base) → Looks (looked_base b) → is_kept_base types f b ≡ true
  kept_base (source.Owner o) h = kept_place o h
  kept_base (source.Pointer l) h = refl

  kept_arguments : (xs : List Argument) → Looks (flat_map looked_argument xs) → list_all (is_kept_argument types f) xs ≡ true
  kept_arguments [] h = refl
  kept_arguments (Slot l ∷ xs) h = and_from (is_kept types f l.local) (list_all (is_kept_argument types f) xs) (kept l.local (h l.local (inl refl))) (kept_arguments xs (λ x m. h x (inr m)))
  kept_arguments (Value r ∷ xs) h = kept_arguments xs h
  kept_arguments (GivenOver x ∷ xs) h = kept_arguments xs h
  kept_arguments (PointerOf l ∷ xs) h = kept_arguments xs h

  kept_change : (o : Operand) (c : Change) → Looks (looked_change o c) → is_kept_change types f o c ≡ true
  kept_change o (Erase at into) h = kept_place o h
  kept_change o _ h = refl

  step_kept : (i : Step) → Looks (looked_step i) → keeps_its_target i ≡ true → keeps_given types f i ≡ true
  step_kept (Move to y) h keeps = kept y (h y (inl refl))
  step_kept (Aim p s) h keeps = kept_source s h
  step_kept (Element p b which) h keeps = kept_base b h
  step_kept (Cursor p b end) h keeps = kept_base b h
  step_kept (Changes o c) h keeps = kept_change o c h
  step_kept (Call target g xs) h keeps = and_from (list_all (is_kept_argument types f) xs) (keeps_target target xs) (kept_arguments xs h) keeps
  step_kept _ h keeps = refl

  node_kept : (n : Node) → Looks (looked_node n) → node_keeps f n ≡ true → node_keeps_given types f n ≡ true
  node_kept (Action i) h keeps = step_kept i h (and_parts (ends_lasting f i) (keeps_its_target i) keeps).1
  node_kept _ h keeps = refl

  spots_keep : (xs : List Spot) → Looks (flat_map looked_spot xs) → list_all (spot_keeps f) xs ≡ true → list_all (spot_keeps_given types f) xs ≡ true
  spots_keep [] h keeps = refl
  spots_keep (x ∷ xs) h keeps =
      let parts = and_parts (spot_keeps f x) (list_all (spot_keeps f) xs) keeps in
      and_from (spot_keeps_given types f x) (list_all (spot_keeps_given types f) xs) (node_kept x.node (λ y m. h y (among_left (looked_spot x) (flat_map looked_spot xs) y m)) parts.0)
      (spots_keep xs (λ y m. h y (among_right (looked_spot x) (flat_map looked_spot xs) y m)) parts.1)

  pub keeps_all : tree_keeps f f.body ≡ true → all_keep_given types f ≡ true
  keeps_all keeps = spots_keep (spots f.body) (λ x m. m) keeps
