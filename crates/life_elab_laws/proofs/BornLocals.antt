-- What code brings to life or writes: an object that it does so stood before, or is new.
use Rattle.std.proofs.Common.{◌≡◌, ◌<◌, ◌≤◌, ◌⊎◌, inl, inr, ℕ, true, List, [], ◌∷◌, ◌++◌, flat_map, length, slice_get, slice_set, Option, Some, None, refl, sym, ap, ◌∙◌, subst, arith}
use Rattle.std.proofs.lemmas.Bool.{cases_eq, cases_lt, false≢true}
use Rattle.std.proofs.lemmas.List.Concat.{flat_map-append}
use Rattle.std.proofs.lemmas.Option.{slice_get_within}
use Rattle.life_types.specs.declared.place.Place.{Place}
use Rattle.life_core.specs.Function.{Function}
use Rattle.life_core.specs.Kinds.{has_kind, is_object, is_object_at}
use Rattle.life_core.specs.Step.{Step}
use Rattle.life_core.specs.Touched.{touched_by}
use Rattle.life_core.specs.Tree.{Action, Acts, Node, Spot, Then, Tree, spots, trees}
use Rattle.life_core.specs.declared.program.Local.{Local}
use Rattle.life_proper.specs.Knowing.{known_at}
use Rattle.life_proper.specs.ReadyKnown.{known_after, set_known}
use Rattle.life_proper.specs.declared.known.Known.{Known}
use Rattle.life_proper.specs.declared.known.Known.TheVariants as known
use Rattle.life_writer.specs.Writing.{State}
use Rattle.life_elab_laws.proofs.Among.{Among, among_either}
use Rattle.life_elab_laws.proofs.GivenApart.{Open, nil_right, parts_of, stands_open}
use Rattle.life_elab_laws.proofs.Growing.{Grows}
use Rattle.life_elab_laws.proofs.Knowledge.{at_set, beside_set, set_length}
use Rattle.life_elab_laws.proofs.Making.{Alive}

-- ---- which locals come to life or are written

module _ (f : Function) where
  abbrev pub born_step : Step → List ℕ
  born_step i = (touched_by f i).births ++ (touched_by f i).writes

  abbrev pub born_node : Node → List ℕ
  born_node (Action i) = born_step i
  born_node _ = []

  abbrev pub born_spot : Spot → List ℕ
  born_spot s = born_node s.node

  abbrev pub born_of : Tree → List ℕ
  born_of t = flat_map born_spot (spots t)

  -- ---- what code brings to life or writes

  -- an object that it does so stood before, or is new
  abbrev pub Bears : State → Tree → Type 0
  Bears s t = (x : ℕ) → is_object_at f x ≡ true → Among x (born_of t) → Open s x ⊎ (length s.locals ≤ x)

  -- one and then another
  pub bears_then : (s t : State) (a b : Tree) → Grows s t → Bears s a → Bears t b → Bears s (Then a b)
  bears_then s t a b grown first second x object m = elim (among_either (born_of a) (born_of b) x (subst (Among x) (flat_map-append born_spot (spots a) (spots b)) m)) [
    | inl one ↦ first x object one
    | inr other ↦ elim (second x object other) [
      | inl o ↦ elim o [
        | inl lives ↦ inl (inl (subst (Among x) grown.living lives))
        | inr pends ↦ elim (cases_lt x (length s.locals)) [ inl lt ↦ inl (inr (grown.fresh x pends lt)) | inr le ↦ inr le ]
      ]
      | inr new ↦ inr (omega (arith, grown.count, new))
    ]
  ]

  -- .. of code
  pub codes_bear : (s t : State) (c d : List Tree) → Grows s t → Bears s (trees c) → Bears t (trees d) → Bears s (trees (c ++ d))
  codes_bear s t c d grown first second x object m =
      bears_then s t (trees c) (trees d) grown first second x object
      (subst (Among x) (parts_of born_spot c d ∙ sym (flat_map-append born_spot (spots (trees c)) (spots (trees d)))) m)

  -- what is set is there
  ready_stays : (k : List Known) (ys : List ℕ) (x : ℕ) → x < length k → known_at k x ≡ known.Ready → known_at (set_known known.Ready ys k) x ≡ known.Ready
  ready_stays k [] x lt there = there
  ready_stays k (y ∷ ys) x lt there = ready_stays (slice_set k y known.Ready) ys x (omega (arith, lt, set_length k y known.Ready)) (elim (cases_eq y x) [
    | inl e ↦ subst (λ (z : ℕ). known_at (slice_set k z known.Ready) x ≡ known.Ready) (sym e) (at_set k x known.Ready lt)
    | inr ne ↦ beside_set k y x known.Ready ne ∙ there
  ])

  set_there : (k : List Known) (ys : List ℕ) (x : ℕ) → x < length k → Among x ys → known_at (set_known known.Ready ys k) x ≡ known.Ready
  set_there k [] x lt m = absurd m
  set_there k (y ∷ ys) x lt (inl e) =
      ready_stays (slice_set k y known.Ready) ys x (omega (arith, lt, set_length k y known.Ready)) (subst (λ (z : ℕ). known_at (slice_set k z known.Ready) x ≡ known.Ready) (sym e) (at_set k x known.Ready lt))
  set_there k (y ∷ ys) x lt (inr m) = set_there (slice_set k y known.Ready) ys x (omega (arith, lt, set_length k y known.Ready)) m

  blank_length : (k : List Known) (ys : List ℕ) → length (set_known known.Blank ys k) ≡ length k
  blank_length k [] = refl
  blank_length k (y ∷ ys) = blank_length (slice_set k y known.Blank) ys ∙ set_length k y known.Blank

  module _ (i : Step) (place : Place) (s : State) (k : List Known) (alive : Alive f s k) where
    -- it is there behind
    born_there : (x : ℕ) → is_object_at f x ≡ true → Among x (born_of (trees (Acts place i ∷ []))) → known_at (known_after (touched_by f i) k) x ≡ known.Ready
    born_there x object m = set_there (set_known known.Blank (touched_by f i).leaves k) (born_step i) x below (nil_right f (born_step i) x m)
      where
        within : (o : Option Local) → slice_get f.locals x ≡ o → has_kind is_object o ≡ true → x < length f.locals
        within None at h = absurd (false≢true h)
        within (Some l) at h = slice_get_within f.locals x l at

        below : x < length (set_known known.Blank (touched_by f i).leaves k)
        below = let lt = within (slice_get f.locals x) refl object in omega (arith, lt, alive.sized, blank_length k (touched_by f i).leaves)

    -- an instruction that leaves all that is known
    pub still_bears : ((x : ℕ) → known_at (known_after (touched_by f i) k) x ≡ known_at k x) → Bears s (trees (Acts place i ∷ []))
    still_bears same x object m = inl (stands_open f s k x alive object (sym (same x) ∙ born_there x object m))

    -- .. but for one local, which is a register or new
    pub filled_bears : (r : ℕ) → known_after (touched_by f i) k ≡ slice_set k r known.Ready → (is_object_at f r ≡ true → length s.locals ≤ r) → Bears s (trees (Acts place i ∷ []))
    filled_bears r after new x object m = elim (cases_eq r x) [
      | inl e ↦ inr (subst (λ (z : ℕ). length s.locals ≤ z) e (new (ap (is_object_at f) e ∙ object)))
      | inr ne ↦ inl (stands_open f s k x alive object (sym (ap (λ (j : List Known). known_at j x) after ∙ beside_set k r x known.Ready ne) ∙ born_there x object m))
    ]
