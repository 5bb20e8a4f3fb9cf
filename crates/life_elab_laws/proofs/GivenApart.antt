-- What code gives over to an owner or a call is new, and nothing looks at it: neither before that nor behind, nor on another way.
use Rattle.std.proofs.Common.{◌≡◌, ◌<◌, ◌≤◌, ◌⊎◌, inl, inr, ℕ, Bool, true, false, ◌&&◌, not, is_none, List, [], ◌∷◌, ◌++◌, flat_map, length, slice_get, Option, Some, None, refl, sym, ap, ◌∙◌, subst, arith}
use Rattle.std.proofs.lemmas.Bool.{and_parts, false≢true}
use Rattle.std.proofs.lemmas.List.Concat.{flat_map-append}
use Rattle.std.specs.List.{list_all}
use Rattle.life_types.specs.Types.{Types}
use Rattle.life_types.specs.declared.place.Place.{Place}
use Rattle.life_core.specs.Function.{Function}
use Rattle.life_core.specs.Kinds.{has_kind, is_object, is_object_at}
use Rattle.life_core.specs.Step.{Step}
use Rattle.life_core.specs.Touched.{touched_by}
use Rattle.life_core.specs.Tree.{Acts, Spot, Then, Tree, spots, trees}
use Rattle.life_core.specs.declared.program.Local.{Local}
use Rattle.life_proper.specs.GivenOver.{given_spot, given_step}
use Rattle.life_proper.specs.Knowing.{known_at, same}
use Rattle.life_proper.specs.ReadyKnown.{are_known, are_ready, can_leave, is_known}
use Rattle.life_proper.specs.declared.known.Known.{Known}
use Rattle.life_proper.specs.declared.known.Known.TheVariants as known
use Rattle.life_writer.specs.Writing.{State}
use Rattle.life_elab_laws.proofs.Among.{Among, among_either, among_or}
use Rattle.life_elab_laws.proofs.LookedLocals.{looked_of, looked_spot, looked_step, step_used}
use Rattle.life_elab_laws.proofs.Making.{Alive}
use Rattle.life_elab_laws.proofs.Shaping.{is_no_object}

-- ---- which locals are given over

abbrev pub given_of : Tree → List ℕ
given_of t = flat_map given_spot (spots t)

-- those of code are those of its parts
pub parts_of : (part : Spot → List ℕ) (c d : List Tree) → flat_map part (spots (trees (c ++ d))) ≡ flat_map part (spots (trees c)) ++ flat_map part (spots (trees d))
parts_of part [] d = refl
parts_of part (t ∷ c) d =
    flat_map-append part (spots t) (spots (trees (c ++ d)))
    ∙ ap (λ (xs : List ℕ). flat_map part (spots t) ++ xs) (parts_of part c d)
    ∙ sym (assoc (flat_map part (spots t)) (flat_map part (spots (trees c))) (flat_map part (spots (trees d))))
    ∙ ap (λ (xs : List ℕ). xs ++ flat_map part (spots (trees d))) (sym (flat_map-append part (spots t) (spots (trees c))))
  where
    assoc : (xs ys zs : List ℕ) → (xs ++ ys) ++ zs ≡ xs ++ (ys ++ zs)
    assoc [] ys zs = refl
    assoc (x ∷ xs) ys zs = ap (λ (ws : List ℕ). x ∷ ws) (assoc xs ys zs)

-- ---- what stands: variables, temporaries that live as long as one, and those that are pending

abbrev pub Open : State → ℕ → Type 0
Open s x = Among x s.living ⊎ Among x s.pending

pub open_or : (s : State) (x : ℕ) → Open s x ⊎ (Open s x → ⊥)
open_or s x = elim (among_or x s.living) [
  | inl m ↦ inl (inl m)
  | inr none ↦ elim (among_or x s.pending) [ inl m ↦ inl (inr m) | inr never ↦ inr (λ h. elim h [ inl m ↦ none m | inr m ↦ never m ]) ]
]

abbrev pub IsBelow : State → Type 0
IsBelow s = (x : ℕ) → Open s x → x < length s.locals

-- one more stands, which is new
pub one_more : (n m : ℕ) (living pending : List ℕ) (x : ℕ) → n < m → Among x (living ++ n ∷ []) ⊎ Among x pending → (Among x living ⊎ Among x pending) ⊎ ((n ≤ x) × (x < m))
one_more n m living pending x lt (inl h) = elim (among_either living (n ∷ []) x h) [
  | inl old ↦ inl (inl old)
  | inr new ↦ elim new [ inl e ↦ inr (omega (arith, e), omega (arith, e, lt)) | inr none ↦ absurd none ]
]
one_more n m living pending x lt (inr h) = inl (inr h)

-- .. while the full expression lasts
pub one_pending : (n m : ℕ) (living pending : List ℕ) (x : ℕ) → n < m → Among x living ⊎ Among x (pending ++ n ∷ []) → (Among x living ⊎ Among x pending) ⊎ ((n ≤ x) × (x < m))
one_pending n m living pending x lt (inl h) = inl (inl h)
one_pending n m living pending x lt (inr h) = elim (among_either pending (n ∷ []) x h) [
  | inl old ↦ inl (inr old)
  | inr new ↦ elim new [ inl e ↦ inr (omega (arith, e), omega (arith, e, lt)) | inr none ↦ absurd none ]
]

module _ (f : Function) where
  -- from so many locals, of which these stand, to so many of which those do: what is given over is new and stands no more, and what is looked at stood before,
  -- or is new and isn't given over
  pub record AreApartIn (n m : ℕ) (Before Behind : ℕ → Type 0) (looked given : List ℕ) : Type 0 where
    pub count : n ≤ m
    pub below : (x : ℕ) → Behind x → x < m
    pub opens : (x : ℕ) → Behind x → Before x ⊎ (n ≤ x)
    pub gives : (x : ℕ) → is_object_at f x ≡ true → Among x given → (n ≤ x) × (x < m) × (Behind x → ⊥)
    pub looks : (x : ℕ) → is_object_at f x ≡ true → Among x looked → Before x ⊎ ((n ≤ x) × (x < m))
    pub apart : (x : ℕ) → is_object_at f x ≡ true → Among x looked → Among x given → ⊥

  abbrev pub AreApart : State → State → List ℕ → List ℕ → Type 0
  AreApart s s' looked given = AreApartIn (length s.locals) (length s'.locals) (Open s) (Open s') looked given

  abbrev pub Apart : State → State → Tree → Type 0
  Apart s s' t = IsBelow s → AreApart s s' (looked_of t) (given_of t)

  -- one and then another
  pub apart_then : (s t r : State) (a b c d : List ℕ) → IsBelow s → AreApart s t a b → AreApart t r c d → AreApart s r (a ++ c) (b ++ d)
  apart_then s t r a b c d below first second = record {
    count = omega (arith, first.count, second.count);
    below = second.below;
    opens = λ x o. elim (second.opens x o) [ inl before ↦ first.opens x before | inr new ↦ inr (omega (arith, first.count, new)) ];
    gives = λ x object m. elim (among_either b d x m) [
      | inl g ↦ let is = first.gives x object g in
          (is.0, omega (arith, is.1, second.count), λ o. elim (second.opens x o) [ inl before ↦ is.2 before | inr new ↦ omega (arith, new, is.1) ])
      | inr g ↦ let is = second.gives x object g in (omega (arith, first.count, is.0), is.1, is.2)
    ];
    looks = λ x object m. elim (among_either a c x m) [
      | inl l ↦ elim (first.looks x object l) [ inl o ↦ inl o | inr new ↦ inr (new.0, omega (arith, new.1, second.count)) ]
      | inr l ↦ elim (second.looks x object l) [
        | inl o ↦ elim (first.opens x o) [ inl before ↦ inl before | inr new ↦ inr (new, let lt = first.below x o in omega (arith, lt, second.count)) ]
        | inr new ↦ inr (omega (arith, first.count, new.0), new.1)
      ]
    ];
    apart = λ x object m g. elim (among_either a c x m) [
      | inl l ↦ elim (among_either b d x g) [
        | inl h ↦ first.apart x object l h
        | inr h ↦ let is = second.gives x object h in elim (first.looks x object l) [ inl o ↦ let lt = below x o in omega (arith, lt, first.count, is.0) | inr new ↦ omega (arith, new.1, is.0) ]
      ]
      | inr l ↦ elim (among_either b d x g) [
        | inl h ↦ let is = first.gives x object h in elim (second.looks x object l) [ inl o ↦ is.2 o | inr new ↦ omega (arith, new.0, is.1) ]
        | inr h ↦ second.apart x object l h
      ]
    ];
  }

  -- .. of code
  pub codes_apart : (s t r : State) (c d : List Tree) → Apart s t (trees c) → Apart t r (trees d) → Apart s r (trees (c ++ d))
  codes_apart s t r c d first second below =
      let one = first below in
      let both = apart_then s t r (looked_of (trees c)) (given_of (trees c)) (looked_of (trees d)) (given_of (trees d)) below one (second one.below) in
      subst (λ (xs : List ℕ). AreApart s r xs (given_of (trees (c ++ d)))) (sym (parts_of looked_spot c d))
      (subst (AreApart s r (looked_of (trees c) ++ looked_of (trees d))) (sym (parts_of given_spot c d)) both)

  -- .. and of two trees
  pub trees_apart : (s t r : State) (a b : Tree) → Apart s t a → Apart t r b → Apart s r (Then a b)
  trees_apart s t r a b first second below =
      let one = first below in
      let both = apart_then s t r (looked_of a) (given_of a) (looked_of b) (given_of b) below one (second one.below) in
      subst (λ (xs : List ℕ). AreApart s r xs (given_of (Then a b))) (sym (flat_map-append looked_spot (spots a) (spots b)))
      (subst (AreApart s r (looked_of a ++ looked_of b)) (sym (flat_map-append given_spot (spots a) (spots b))) both)

  -- a tree of which nothing comes but what these have: a branch or a loop
  pub three_apart : (s t r q : State) (a b c : Tree) → Apart s t a → Apart t r b → Apart r q c → IsBelow s → AreApart s q (flat_map looked_spot (spots a ++ (spots b ++ spots c))) (flat_map given_spot (spots a ++ (spots b ++ spots c)))
  three_apart s t r q a b c first second third below = trees_apart s t q a (Then b c) first (trees_apart t r q b c second third) below

  -- one alone, as code
  pub alone_apart : (s s' : State) (t : Tree) → Apart s s' t → Apart s s' (trees (t ∷ []))
  alone_apart s s' t h below =
      let one = h below in
      trees_apart s s' s' t (trees []) h (λ b. record { count = omega arith; below = b; opens = λ x o. inl o; gives = λ x object m. absurd m; looks = λ x object m. absurd m; apart = λ x object m. absurd m }) below

  -- ---- what looks at nothing, and gives nothing over

  pub none_apart : (s s' : State) → length s.locals ≤ length s'.locals → ((x : ℕ) → Open s' x → Open s x ⊎ ((length s.locals ≤ x) × (x < length s'.locals))) → IsBelow s → AreApart s s' [] []
  none_apart s s' count opens below = record {
    count = count;
    below = λ x o. elim (opens x o) [ inl before ↦ let lt = below x before in omega (arith, lt, count) | inr new ↦ new.1 ];
    opens = λ x o. elim (opens x o) [ inl before ↦ inl before | inr new ↦ inr new.0 ];
    gives = λ x object m. absurd m;
    looks = λ x object m. absurd m;
    apart = λ x object m. absurd m;
  }

  -- .. and writes nothing
  pub same_apart : (s s' : State) → s'.locals ≡ s.locals → s'.living ≡ s.living → s'.pending ≡ s.pending → IsBelow s → AreApart s s' [] []
  same_apart s s' locals living pending below =
      none_apart s s' (omega (arith, ap length locals)) (λ x o. elim o [ inl m ↦ inl (inl (subst (Among x) living m)) | inr m ↦ inl (inr (subst (Among x) pending m)) ]) below

  -- behind it, what stands does no more, or something new does
  pub then_opens : (s t r : State) (looked given : List ℕ) → length t.locals ≤ length r.locals → ((x : ℕ) → Open r x → Open t x ⊎ ((length t.locals ≤ x) × (x < length r.locals))) → IsBelow s → AreApart s t looked given → AreApart s r looked given
  then_opens s t r looked given count opens below h = record {
    count = omega (arith, h.count, count);
    below = λ x o. elim (opens x o) [ inl before ↦ let lt = h.below x before in omega (arith, lt, count) | inr new ↦ new.1 ];
    opens = λ x o. elim (opens x o) [ inl before ↦ h.opens x before | inr new ↦ inr (omega (arith, h.count, new.0)) ];
    gives = λ x object m. let is = h.gives x object m in (is.0, omega (arith, is.1, count), λ o. elim (opens x o) [ inl before ↦ is.2 before | inr new ↦ omega (arith, new.0, is.1) ]);
    looks = λ x object m. elim (h.looks x object m) [ inl o ↦ inl o | inr new ↦ inr (new.0, omega (arith, new.1, count)) ];
    apart = h.apart;
  }

  -- ---- an instruction

  -- what is looked at is used
  known_among : (k : List Known) (xs : List ℕ) (x : ℕ) → are_known known.Ready k xs ≡ true → Among x xs → known_at k x ≡ known.Ready
  known_among k [] x h m = absurd m
  known_among k (y ∷ xs) x h m =
      let parts = and_parts (is_known known.Ready k y) (are_known known.Ready k xs) h in
      elim m [ inl e ↦ subst (λ (z : ℕ). known_at k z ≡ known.Ready) e (one (known_at k y) parts.0) | inr more ↦ known_among k xs x parts.1 more ]
    where
      one : (a : Known) → same a known.Ready ≡ true → a ≡ known.Ready
      one known.Ready e = refl
      one known.Blank e = absurd (false≢true e)
      one known.Unknown e = absurd (false≢true e)

  -- an object that is there stands
  pub stands_open : (s : State) (k : List Known) (x : ℕ) → Alive f s k → is_object_at f x ≡ true → known_at k x ≡ known.Ready → Open s x
  stands_open s k x alive object ready = elim (open_or s x) [ inl o ↦ o | inr none ↦ absurd (go (slice_get f.locals x) refl object none) ]
    where
      clash : ◌≡◌ {A = Known} known.Blank known.Ready → ⊥
      clash e = cc

      lasting : (nameless : Bool) (b : Bool) → b ≡ true → (nameless && not b) ≡ false
      lasting true true e = refl
      lasting false true e = refl
      lasting nameless false e = absurd (false≢true e)

      go : (o : Option Local) → slice_get f.locals x ≡ o → has_kind is_object o ≡ true → (Open s x → ⊥) → ⊥
      go None at h none = false≢true h
      go (Some l) at h none = clash (sym (alive.blank x l at (lasting (is_none l.name) (is_object l.kind) h) (λ m. none (inl m)) (λ m. none (inr m))) ∙ ready)

  -- no object is given over
  none_given : (types : Types) (xs : List ℕ) (x : ℕ) → list_all (is_no_object types f) xs ≡ true → is_object_at f x ≡ true → Among x xs → ⊥
  none_given types [] x h object m = m
  none_given types (y ∷ xs) x h object m =
      let parts = and_parts (is_no_object types f y) (list_all (is_no_object types f) xs) h in
      elim m [ inl e ↦ false≢true (sym (ap not (ap (is_object_at f) e ∙ object)) ∙ parts.0) | inr more ↦ none_given types xs x parts.1 object more ]

  pub nil_right : (xs : List ℕ) (x : ℕ) → Among x (xs ++ []) → Among x xs
  nil_right xs x m = elim (among_either xs [] x m) [ inl h ↦ h | inr none ↦ absurd none ]

  -- .. by an instruction that is ready where these stand
  pub step_apart : (types : Types) (i : Step) (place : Place) (s : State) (k : List Known) → Alive f s k → are_ready k (touched_by f i) ≡ true → list_all (is_no_object types f) (given_step i) ≡ true → Apart s s (trees (Acts place i ∷ []))
  step_apart types i place s k alive ready none below = record {
    count = omega arith;
    below = below;
    opens = λ x o. inl o;
    gives = λ x object m. absurd (none_given types (given_step i) x none object (nil_right (given_step i) x m));
    looks = λ x object m. inl (stands_open s k x alive object (known_among k (touched_by f i).uses x uses (step_used f i x (nil_right (looked_step i) x m))));
    apart = λ x object l m. none_given types (given_step i) x none object (nil_right (given_step i) x m);
  }
    where
      uses : are_known known.Ready k (touched_by f i).uses ≡ true
      uses = (and_parts (are_known known.Ready k (touched_by f i).uses) (can_leave k (touched_by f i).leaves && are_known known.Blank k (touched_by f i).births) ready).0

  -- .. or looks at nothing
  pub quiet_apart : (types : Types) (i : Step) (place : Place) (s s' : State) → looked_step i ≡ [] → list_all (is_no_object types f) (given_step i) ≡ true → length s.locals ≤ length s'.locals
      → ((x : ℕ) → Open s' x → Open s x ⊎ ((length s.locals ≤ x) × (x < length s'.locals))) → Apart s s' (trees (Acts place i ∷ []))
  quiet_apart types i place s s' quiet none count opens below = record {
    count = count;
    below = plain.below;
    opens = plain.opens;
    gives = λ x object m. absurd (none_given types (given_step i) x none object (nil_right (given_step i) x m));
    looks = λ x object m. absurd (unseen x m);
    apart = λ x object m g. unseen x m;
  }
    where
      plain : AreApart s s' [] []
      plain = none_apart s s' count opens below

      unseen : (x : ℕ) → Among x (looked_step i ++ []) → ⊥
      unseen x m = subst (Among x) quiet (nil_right (looked_step i) x m)
