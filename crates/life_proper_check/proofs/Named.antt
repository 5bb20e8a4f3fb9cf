-- Structs with names of their members, one after the other.
use Rattle.std.proofs.Common.{◌≡◌, ◌+◌, ◌<◌, ◌∙◌, ℕ, zero, suc, true, ◌&&◌, List, [], ◌∷◌, ap, drop, get_or, length, map, nat_eq, nat_lt, Some, slice_get, sym, subst, arith}
use Rattle.std.proofs.lemmas.Bool.{and_from, and_parts, false≢true}
use Rattle.std.proofs.lemmas.Option.{none-some, same_Some, slice_get-get_or}
use Rattle.std.specs.List.{list_all}
use Rattle.std.specs.Prelude.{unwrap_or}
use Rattle.life_types.specs.declared.ty.NameId.{NameId}
use Rattle.life_types.specs.declared.ty.TyId.{TyId}
use Rattle.life_proper.specs.WellFormedPrograms.{have_names, is_name}
use Rattle.life_proper_check.specs.Deciding.{is_named_struct}

one_named : (names : ℕ) (ids : List TyId) (ns : List NameId) (structs : List (List TyId)) (members : List (List NameId)) → is_named_struct names ids ns ≡ true → have_names names structs members ≡ true
    → have_names names (ids ∷ structs) (ns ∷ members) ≡ true
one_named names ids ns structs members one others =
    let a = and_parts (nat_lt 0 (length ids)) (nat_eq (length ids) (length ns) && list_all (is_name names) ns) one in
    let b = and_parts (nat_eq (length ids) (length ns)) (list_all (is_name names) ns) a.1 in
    and_from (nat_lt 0 (length ids)) _ a.0 (and_from (nat_eq (length ids) (length ns)) _ b.0 (and_from (list_all (is_name names) ns) (have_names names structs members) b.1 others))

-- from a struct on, where it is named and so are those behind it
named_from : {A : Type 0} (seen : A → List NameId) (names i : ℕ) (structs : List (List TyId)) (members : List A) (x : A) → slice_get members i ≡ Some x
    → is_named_struct names (unwrap_or (slice_get structs i) []) (seen x) ≡ true → have_names names (drop (suc i) structs) (map seen (drop (suc i) members)) ≡ true
    → have_names names (drop i structs) (map seen (drop i members)) ≡ true
named_from seen names i [] members x at one others = absurd (false≢true one)
named_from seen names i (s ∷ structs) [] x at one others = absurd (none-some x at)
named_from {A = A} seen names zero (s ∷ structs) (m ∷ members) x at one others =
    one_named names s (seen m) structs (map seen members) (subst (λ (u : A). is_named_struct names s (seen u) ≡ true) (sym (same_Some m x at)) one) others
named_from seen names (suc i) (s ∷ structs) (m ∷ members) x at one others = named_from seen names i structs members x at one others

-- .. as the loop over the names has it
pub named_turn : {A : Type 0} (seen : A → List NameId) (names i : ℕ) (structs : List (List TyId)) (members items : List A) (x : A) → items ≡ members → i < length items → x ≡ get_or items i x
    → is_named_struct names (unwrap_or (slice_get structs i) []) (seen x) ≡ true → have_names names (drop (i + 1) structs) (map seen (drop (i + 1) members)) ≡ true
    → have_names names (drop i structs) (map seen (drop i members)) ≡ true
named_turn {A = A} seen names i structs members items x same lt is one others =
    let next : i + 1 ≡ suc i = omega arith in
    named_from seen names i structs members x (ap (λ (ms : List A). slice_get ms i) (sym same) ∙ slice_get-get_or items i x lt ∙ ap Some (sym is)) one
    (subst (λ (k : ℕ). have_names names (drop k structs) (map seen (drop k members)) ≡ true) next others)
