-- A list of diagnostics is unique: what is wrong decides which they are, and their lines in which order.
use Rattle.std.proofs.Common.{◌≡◌, ℕ, ◌<◌, suc, refl, ap, sym, ◌∙◌, inl, inr, true, true≢false, arith, subst, List, [], ◌∷◌, Option, Some, None, length, get_or, map, Contains, nat_eq, rules}
use Rattle.std.specs.Option.{option_eq}
use Rattle.std.specs.Cmp.{IsTotalOrder}
use Rattle.std.specs.List.Sorted.{IsStrictlySortedBy}
use Rattle.std.specs.Ordering.{is_eq, is_le, ordering_reverse}
use Rattle.std.specs.declared.cmp.Ordering.{Ordering}
use Rattle.std.specs.declared.cmp.Ordering.TheVariants.{Less, Equal, Greater}
use Rattle.std.proofs.lemmas.Bool.{and_parts, eqb-true}
use Rattle.std.proofs.lemmas.Cmp.{tied_itself, then_total, on_total, nat_cmp_total, nat_list_cmp_total}
use Rattle.std.proofs.lemmas.List.{length-map, get_or-map}
use Rattle.std.proofs.lemmas.Map.Keys.{Less-from_sorted, sorted_tail}
use Rattle.life_types.specs.contracts.place.PlacePartialEq.TheImpl.{ghosts as place_eq}
use Rattle.life_types.specs.declared.place.Place.{Place}
use Rattle.life_pset.proofs.Members.{cons_cases, in_head, in_tail, none_in_empty}
use Rattle.life_pset.proofs.Numbers.{exact_element}
use Rattle.life_pset.specs.contracts.element.AbsPlacePartialEq.TheImpl.{ghosts as abs_place_eq}
use Rattle.life_pset.specs.contracts.element.CausePartialEq.TheImpl.{ghosts as cause_eq}
use Rattle.life_pset.specs.declared.element.AbsPlace.{AbsPlace}
use Rattle.life_pset.specs.declared.element.Cause.{Cause}
use Rattle.life_rules.specs.contracts.diag.DiagKindPartialEq.TheImpl.{ghosts as kind_eq}
use Rattle.life_rules.specs.contracts.diag.WhyPartialEq.TheImpl.{ghosts as why_eq}
use Rattle.life_rules.specs.declared.diag.DiagKind.{DiagKind}
use Rattle.life_rules.specs.declared.diag.Why.{Why}
use Rattle.life_rules.specs.Lines.{Line, line_cmp}
use Rattle.life_rules.specs.Listing.{IsListing}
use Rattle.life_rules.specs.contracts.diag.DiagOrd.TheImpl.{ghosts as diag}
use Rattle.life_rules.specs.contracts.diag.DiagOrd.TheImpl.Laws.{lawful}
use Rattle.life_rules.specs.contracts.diag.DiagPartialEq.TheImpl.{ghosts as diag_eq}
use Rattle.life_rules.specs.declared.diag.Diag.{Diag}

-- ---- lists in strict order of a key

-- the first key is below the others
pub below_others : {A K : Type 0} (R : K → K → Ordering) (key : A → K) (x : A) (xs : List A) → IsStrictlySortedBy R (map key (x ∷ xs)) → (z : A) → Contains xs z → R (key x) (key z) ≡ Less
below_others {A = A} R key x xs sorted z h =
    let within : suc h.0 < length (map key (x ∷ xs)) = subst (λ (n : ℕ). suc h.0 < n) (sym (length-map (x ∷ xs) key)) (omega (arith, h.1)) in
    let less = Less-from_sorted R (map key (x ∷ xs)) 0 (suc h.0) (key z) sorted (omega arith) within in
    let at : get_or (map key xs) h.0 (key z) ≡ key z = get_or-map key xs h.0 z (key z) h.1 ∙ ap key h.2 in
    ap (R (key x)) (sym at) ∙ less

-- nothing is below itself
not_less : {K : Type 0} {R : K → K → Ordering} → IsTotalOrder R → (x : K) → R x x ≡ Less → ⊥
not_less o x less = let tied = tied_itself o x in cc

-- .. nor are two things each below the other
not_both_less : {K : Type 0} {R : K → K → Ordering} → IsTotalOrder R → (x y : K) → R x y ≡ Less → R y x ≡ Less → ⊥
not_both_less o x y below above = not_less o x (o.trans x y x below above)

-- lists in strict order that have the same members are equal
pub same_sorted : {A K : Type 0} {R : K → K → Ordering} → IsTotalOrder R → (key : A → K) (xs ys : List A) → IsStrictlySortedBy R (map key xs) → IsStrictlySortedBy R (map key ys)
    → ((x : A) → Contains xs x → Contains ys x) → ((x : A) → Contains ys x → Contains xs x) → xs ≡ ys
same_sorted o key [] [] sorted sorted' into from = refl
same_sorted o key [] (y ∷ ys) sorted sorted' into from = absurd (none_in_empty y (from y (in_head y ys)))
same_sorted o key (x ∷ xs) [] sorted sorted' into from = absurd (none_in_empty x (into x (in_head x xs)))
same_sorted {A = A} {R = R} o key (x ∷ xs) (y ∷ ys) sorted sorted' into from =
    let first : x ≡ y =
    elim (cons_cases y ys x (into x (in_head x xs))) [
      | inl is ↦ sym is
      | inr later ↦
          elim (cons_cases x xs y (from y (in_head y ys))) [
            | inl is ↦ is
            | inr later' ↦ absurd (not_both_less o (key x) (key y) (below_others R key x xs sorted y later') (below_others R key y ys sorted' x later))
          ]
    ] in
    let rest = same_sorted o key xs ys (sorted_tail R (key x) (map key xs) sorted) (sorted_tail R (key y) (map key ys) sorted')
    (λ z h.
    elim (cons_cases y ys z (into z (in_tail x xs z h))) [
      | inl is ↦ absurd (not_less o (key x) (ap (λ (w : A). R (key x) (key w)) (first ∙ is) ∙ below_others R key x xs sorted z h))
      | inr later ↦ later
    ])
    (λ z h.
    elim (cons_cases x xs z (from z (in_tail y ys z h))) [
      | inl is ↦ absurd (not_less o (key y) (ap (λ (w : A). R (key y) (key w)) (sym first ∙ is) ∙ below_others R key y ys sorted' z h))
      | inr later ↦ later
    ]) in
    λ i. first i ∷ rest i

-- .. and in such a list a key belongs to one element
pub one_by_key : {A K : Type 0} {R : K → K → Ordering} → IsTotalOrder R → (key : A → K) (xs : List A) → IsStrictlySortedBy R (map key xs) → (x y : A) → Contains xs x → Contains xs y → key x ≡ key y → x ≡ y
one_by_key o key [] sorted x y h h' same = absurd (none_in_empty x h)
one_by_key {R = R} o key (z ∷ zs) sorted x y h h' same =
    elim (cons_cases z zs x h) [
      | inl is ↦
          elim (cons_cases z zs y h') [
            | inl is' ↦ sym is ∙ is'
            | inr later' ↦ absurd (not_less o (key y) (ap (λ w. R w (key y)) (sym same ∙ ap key (sym is)) ∙ below_others R key z zs sorted y later'))
          ]
      | inr later ↦
          elim (cons_cases z zs y h') [
            | inl is' ↦ absurd (not_less o (key x) (ap (λ w. R w (key x)) (same ∙ ap key (sym is')) ∙ below_others R key z zs sorted x later))
            | inr later' ↦ one_by_key o key zs (sorted_tail R (key z) (map key zs) sorted) x y later later' same
          ]
    ]

-- ---- lines and diagnostics

pub lines_total : IsTotalOrder line_cmp
lines_total =
    then_total (on_total (λ (l : Line). l.line) nat_cmp_total)
    (then_total (on_total (λ (l : Line). l.column) nat_cmp_total)
    (then_total (on_total (λ (l : Line). l.kind) nat_cmp_total)
    (then_total (on_total (λ (l : Line). l.name) nat_list_cmp_total)
    (on_total (λ (l : Line). l.why) nat_list_cmp_total))))

place_exact : (x y : Place) → place_eq.eq x y ≡ true → x ≡ y
place_exact x y h = search rules

abs_place_exact : (x y : AbsPlace) → abs_place_eq.eq x y ≡ true → x ≡ y
abs_place_exact x y h = search rules

cause_exact : (x y : Cause) → cause_eq.eq x y ≡ true → x ≡ y
cause_exact x y h = search rules

kind_exact : (x y : DiagKind) → kind_eq.eq x y ≡ true → x ≡ y
kind_exact x y h = search rules

why_exact : (x y : Why) → why_eq.eq x y ≡ true → x ≡ y
why_exact x y h = search (rules, cause_exact, exact_element)

called_exact : (x y : Option ℕ) → option_eq nat_eq x y ≡ true → x ≡ y
called_exact None None h = refl
called_exact None (Some n) h = absurd (true≢false (sym h))
called_exact (Some m) None h = absurd (true≢false (sym h))
called_exact (Some m) (Some n) h = ap Some (eqb-true m n h)

-- diagnostics that `==` tells apart by none of their fields are equal
pub diag_exact : (x y : Diag) → diag_eq.eq x y ≡ true → x ≡ y
diag_exact x y h =
    let a = and_parts (nat_eq x.function y.function) _ h in
    let b = and_parts (place_eq.eq x.place y.place) _ a.1 in
    let c = and_parts (kind_eq.eq x.kind y.kind) _ b.1 in
    let d = and_parts (abs_place_eq.eq x.name y.name) _ c.1 in
    let e = and_parts (option_eq nat_eq x.called y.called) (why_eq.eq x.why y.why) d.1 in
    λ i. record {
      function = eqb-true x.function y.function a.0 i;
      place = place_exact x.place y.place b.0 i;
      kind = kind_exact x.kind y.kind c.0 i;
      name = abs_place_exact x.name y.name d.0 i;
      called = called_exact x.called y.called e.0 i;
      why = why_exact x.why y.why e.1 i;
    }

both_le : (a : Ordering) → is_le a ≡ true → is_le (ordering_reverse a) ≡ true → is_eq a ≡ true
both_le Less p q = cc
both_le Equal p q = refl
both_le Greater p q = cc

-- of two diagnostics each comes before the other only where they are one
pub same_diag : (x y : Diag) → is_le (diag.cmp x y) ≡ true → is_le (diag.cmp y x) ≡ true → x ≡ y
same_diag x y before after =
    diag_exact x y (lawful.matches_eq x y ∙ both_le (diag.cmp x y) before (ap is_le (sym (lawful.total.antisymm y x)) ∙ after))

-- a member of one listing is in the other
member : {W : Diag → Type 0} {line : Diag → Line} {ds es : List Diag} → IsListing W line ds → IsListing W line es → (d : Diag) → Contains ds d → Contains es d
member {line = line} {ds = ds} {es = es} listing other d h =
    let e = other.each d (listing.only d h) in
    let back = listing.each e.0 (other.only e.0 e.1.0) in
    let same : back.0 ≡ d = one_by_key lines_total line ds listing.sorted back.0 d back.1.0 h (back.1.1.same_line ∙ e.1.1.same_line) in
    let before : is_le (diag.cmp d e.0) ≡ true = subst (λ (x : Diag). is_le (diag.cmp x e.0) ≡ true) same back.1.1.first in
    subst (λ (x : Diag). Contains es x) (same_diag e.0 d e.1.1.first before) e.1.0

-- there is one listing at most
pub only_listing : {W : Diag → Type 0} {line : Diag → Line} {ds es : List Diag} → IsListing W line ds → IsListing W line es → ds ≡ es
only_listing {line = line} {ds = ds} {es = es} listing other =
    same_sorted lines_total line ds es listing.sorted other.sorted (member listing other) (member other listing)

-- where nothing is listed nothing is wrong
pub nothing_wrong : {W : Diag → Type 0} {line : Diag → Line} → IsListing W line [] → (d : Diag) → W d → ⊥
nothing_wrong listing d wrong = let e = listing.each d wrong in none_in_empty e.0 e.1.0

-- .. and where nothing is wrong nothing is listed
pub empty_listing : {W : Diag → Type 0} {line : Diag → Line} → ((d : Diag) → W d → ⊥) → IsListing W line []
unfolding IsStrictlySortedBy
empty_listing none = record {
  sorted = tt;
  only = λ d h. absurd (none_in_empty d h);
  each = λ d wrong. absurd (none d wrong);
}

-- .. by any listing
pub nothing_listed : {W : Diag → Type 0} {line : Diag → Line} {ds : List Diag} → IsListing W line ds → ((d : Diag) → W d → ⊥) → ds ≡ []
nothing_listed listing none = only_listing listing (empty_listing none)
