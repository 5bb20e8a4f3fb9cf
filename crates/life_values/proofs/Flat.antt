-- A value without its tree: its parts begin where the value does, and its owners are those that its kinds tell.
use Rattle.std.proofs.Common.{◌≡◌, ℕ, zero, suc, ◌+◌, ◌≤◌, ◌<◌, List, [], ◌∷◌, ◌++◌, length, map, drop, Option, Some, None, refl, sym, ap, subst, ◌∙◌, arith, append_assoc}
use Rattle.std.proofs.lemmas.List.{map-append}
use Rattle.std.proofs.lemmas.Option.{none-some, same_Some}
use Rattle.std.specs.Prelude.{slice_get}
use Rattle.life_types.specs.declared.ty.TyId.{TyId}
use Rattle.life_types.specs.Types.{Types}
use Rattle.life_store.specs.Kinds.{Plain, Owner, Pointing, first_owns, kind_in}
use Rattle.life_store.specs.Parts.{Parts, Single, Raw, Iterates, Views, Text, Vector, Unique, Member, NoMember, parts_at, parts_of, parts_within, width}
use Rattle.life_seen.specs.Kinds.{kinds_of}
use Rattle.life_seen.proofs.WholePointers.{row_front, row_back, row_cases}
use Rattle.life_values.specs.Layouts.{flat, moved, owned_word, owner_words, owners_in, AreLayouts, AreLaid, AreOwners}
use Rattle.life_values.specs.declared.layout.Layout.{Layout}
use Rattle.life_values.specs.declared.layout.Leaf.{Leaf}

-- ---- lists

pub drop_here : {X : Type 0} (xs : List X) (i : ℕ) (x : X) → slice_get xs i ≡ Some x → drop i xs ≡ x ∷ drop (i + 1) xs
drop_here [] i x e = absurd (none-some x e)
drop_here (y ∷ ys) zero x e = ap (λ z. z ∷ ys) (same_Some y x e)
drop_here (y ∷ ys) (suc i) x e = let s : suc i + 1 ≡ suc (i + 1) = omega arith in drop_here ys i x e ∙ ap (λ n. x ∷ drop n (y ∷ ys)) (sym s)

pub in_either : {X C : Type 0} (xs ys : List X) (j : ℕ) (x : X) → slice_get (xs ++ ys) j ≡ Some x → (slice_get xs j ≡ Some x → C) → ((k : ℕ) → slice_get ys k ≡ Some x → C) → C
in_either [] ys j x e front back = back j e
in_either (y ∷ xs) ys zero x e front back = front e
in_either (y ∷ xs) ys (suc j) x e front back = in_either xs ys j x e front back

in_front : {X : Type 0} (xs ys : List X) (j : ℕ) (x : X) → slice_get xs j ≡ Some x → slice_get (xs ++ ys) j ≡ Some x
in_front [] ys j x e = absurd (none-some x e)
in_front (y ∷ xs) ys zero x e = e
in_front (y ∷ xs) ys (suc j) x e = in_front xs ys j x e

pub in_back : {X : Type 0} (xs ys : List X) (j : ℕ) (x : X) → slice_get ys j ≡ Some x → slice_get (xs ++ ys) (length xs + j) ≡ Some x
in_back [] ys j x e = let z : 0 + j ≡ j = omega arith in ap (slice_get ys) z ∙ e
in_back (y ∷ xs) ys j x e = let z : suc (length xs) + j ≡ suc (length xs + j) = omega arith in ap (slice_get (y ∷ (xs ++ ys))) z ∙ in_back xs ys j x e

pub owner_words-append : (xs ys : List Leaf) → owner_words (xs ++ ys) ≡ owner_words xs ++ owner_words ys
owner_words-append [] ys = refl
owner_words-append (x ∷ xs) ys = ap (λ zs. owned_word x ++ zs) (owner_words-append xs ys) ∙ sym (append_assoc (owned_word x) (owner_words xs) (owner_words ys))

-- ---- a value that begins further back

pub flat_moved : (w v : ℕ) (p : Parts) → flat (w + v) p ≡ map (moved w) (flat v p)
flat_moved w v Single = refl
flat_moved w v Raw = refl
flat_moved w v Iterates = refl
flat_moved w v Views = refl
flat_moved w v (Text ty) = refl
flat_moved w v (Vector ty element) = refl
flat_moved w v (Unique ty target) = refl
flat_moved w v (Member first others) =
    let z : w + v + width first ≡ w + (v + width first) = omega arith in
    ap (λ n. flat (w + v) first ++ flat n others) z
    ∙ (λ i. flat_moved w v first i ++ flat_moved w (v + width first) others i)
    ∙ sym (map-append (moved w) (flat v first) (flat (v + width first) others))
flat_moved w v NoMember = refl

pub flat_at : (w : ℕ) (p : Parts) → flat w p ≡ map (moved w) (flat 0 p)
flat_at w p = let z : w ≡ w + 0 = omega arith in ap (λ n. flat n p) z ∙ flat_moved w 0 p

-- ---- the owners

pub record IsOwnerOf (p : Parts) (w u : ℕ) : Type 0 where
  pub word : ℕ
  pub is : u ≡ w + word
  pub owner : kind_in p word ≡ Owner
  pub within : word < width p

none_in : {A : Type 0} (j u : ℕ) → slice_get [] j ≡ Some u → A
none_in j u e = absurd (none-some u e)

first_in : (p : Parts) (w j u : ℕ) → kind_in p 0 ≡ Owner → width p ≡ 1 → slice_get (w ∷ []) j ≡ Some u → IsOwnerOf p w u
first_in p w zero u owner wide e = record { word = 0; is = let s = same_Some w u e in omega (arith, s); owner = owner; within = omega (arith, wide) }
first_in p w (suc j) u owner wide e = none_in j u e

pub owner_words_own : (p : Parts) (w j u : ℕ) → slice_get (owner_words (flat w p)) j ≡ Some u → IsOwnerOf p w u
owner_words_own Single w j u e = none_in j u e
owner_words_own Raw w j u e = none_in j u e
owner_words_own Iterates w j u e = none_in j u e
owner_words_own Views w j u e = none_in j u e
owner_words_own (Text ty) w j u e = first_in (Text ty) w j u refl refl e
owner_words_own (Vector ty element) w j u e = first_in (Vector ty element) w j u refl refl e
owner_words_own (Unique ty target) w j u e = first_in (Unique ty target) w j u refl refl e
owner_words_own (Member first others) w j u e =
    in_either (owner_words (flat w first)) (owner_words (flat (w + width first) others)) j u (ap (λ xs. slice_get xs j) (sym (owner_words-append (flat w first) (flat (w + width first) others))) ∙ e)
    (λ f. let r = owner_words_own first w j u f in record {
      word = r.word;
      is = r.is;
      owner = row_front (width first) (kind_in first) (kind_in others) r.word r.within ∙ r.owner;
      within = let l = r.within in omega (arith, l);
    })
    (λ k f. let r = owner_words_own others (w + width first) k u f in record {
      word = width first + r.word;
      is = let s = r.is in omega (arith, s);
      owner = row_back (width first) (kind_in first) (kind_in others) r.word ∙ r.owner;
      within = let l = r.within in omega (arith, l);
    })
owner_words_own NoMember w j u e = none_in j u e

plain_owner : {A : Type 0} → Plain ≡ Owner → A
plain_owner e = absurd (clash e)
  where
    clash : Plain ≡ Owner → ⊥
    clash h = cc

pointing_owner : {A : Type 0} (u : ℕ) → Pointing u ≡ Owner → A
pointing_owner u e = absurd (clash e)
  where
    clash : Pointing u ≡ Owner → ⊥
    clash h = cc

abbrev pub IsAmong : List ℕ → ℕ → Type 0
IsAmong xs u = (j : ℕ) × (slice_get xs j ≡ Some u)

first_among : (w u : ℕ) → first_owns u ≡ Owner → IsAmong (w ∷ []) (w + u)
first_among w zero e = (0, ap Some (omega arith))
first_among w (suc u) e = plain_owner e

pub owners_are_words : (p : Parts) (w u : ℕ) → kind_in p u ≡ Owner → IsAmong (owner_words (flat w p)) (w + u)
owners_are_words Single w u e = plain_owner e
owners_are_words Raw w u e = pointing_owner u e
owners_are_words Iterates w u e = pointing_owner u e
owners_are_words Views w u e = pointing_owner u e
owners_are_words (Text ty) w u e = first_among w u e
owners_are_words (Vector ty element) w u e = first_among w u e
owners_are_words (Unique ty target) w u e = first_among w u e
owners_are_words (Member first others) w u e =
    subst (λ xs. IsAmong xs (w + u)) (sym (owner_words-append (flat w first) (flat (w + width first) others)))
    (row_cases (width first) (kind_in first) (kind_in others) u
    (λ lt f. let r = owners_are_words first w u (sym f ∙ e) in (r.0, in_front (owner_words (flat w first)) (owner_words (flat (w + width first) others)) r.0 (w + u) r.1))
    (λ v s f.
    let r = owners_are_words others (w + width first) v (sym f ∙ e) in
    let z : w + width first + v ≡ w + u = omega (arith, s) in
    (length (owner_words (flat w first)) + r.0, in_back (owner_words (flat w first)) (owner_words (flat (w + width first) others)) r.0 (w + u) (r.1 ∙ ap Some z))))
owners_are_words NoMember w u e = plain_owner e

pub are_owners : (p : Parts) → AreOwners (kind_in p) (owner_words (flat 0 p))
are_owners p = record {
  sound = λ j u e. let r = owner_words_own p 0 j u e in let z : u ≡ r.word = (let s = r.is in omega (arith, s)) in ap (kind_in p) z ∙ r.owner;
  complete = λ u e. let r = owners_are_words p 0 u e in (r.0, r.1 ∙ ap Some (omega arith));
}

-- ---- the layouts of a table

none_past : {X : Type 0} (xs : List X) (n : ℕ) → length xs ≤ n → slice_get xs n ≡ None
none_past [] n le = refl
none_past (x ∷ xs) zero le = absurd (omega arith)
none_past (x ∷ xs) (suc n) le = none_past xs n (omega arith)

past_none : {X : Type 0} (xs : List X) (n : ℕ) → slice_get xs n ≡ None → length xs ≤ n
past_none [] n e = omega arith
past_none (x ∷ xs) zero e = absurd (none-some x (sym e))
past_none (x ∷ xs) (suc n) e = let l = past_none xs n e in omega (arith, l)

pub single_past : (types : Types) (layouts : List Layout) → AreLaid types layouts → (ty : TyId) → slice_get layouts ty.0 ≡ None → parts_at types ty ≡ Single
single_past types layouts laid ty e =
    let l = past_none layouts ty.0 e in
    let n = laid.0 in
    ap (λ o. parts_of types (parts_within ty.0 types) o) (none_past types.types ty.0 (omega (arith, l, n)))

pub layouts_own : (types : Types) (layouts : List Layout) → AreLaid types layouts → AreLayouts (kinds_of types) layouts
layouts_own types layouts laid ty = go (slice_get layouts ty.0) refl
  where
    go : (o : Option Layout) → slice_get layouts ty.0 ≡ o → AreOwners (kind_in (parts_at types ty)) (owners_in o)
    go None e = subst (λ p. AreOwners (kind_in p) []) (sym (single_past types layouts laid ty e)) (are_owners Single)
    go (Some l) e = subst (AreOwners (kind_in (parts_at types ty))) (sym (laid.1 ty l e).owners) (are_owners (parts_at types ty))
