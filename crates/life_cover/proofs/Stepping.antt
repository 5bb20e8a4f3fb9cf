-- A place that goes on lies where its parts lie, one after the other.
use Rattle.std.proofs.Common.{◌≡◌, inl, ℕ, zero, suc, ◌+◌, ◌≤◌, ◌<◌, true, List, [], ◌∷◌, ◌++◌, length, Option, Some, None, refl, sym, ap, subst, ◌∙◌, arith}
use Rattle.std.specs.Prelude.{if◌then◌else◌, nat_lt, slice_get, slice_set, sum_by, take}
use Rattle.std.proofs.lemmas.Bool.Decides.{nat_tests}
use Rattle.std.proofs.lemmas.List.{length-set}
use Rattle.life_types.specs.Types.{Types}
use Rattle.life_types.specs.declared.ty.TyId.{TyId}
use Rattle.life_pset.specs.Places.{longer, member_place, members_place, owned_step, path, stepped, too_long}
use Rattle.life_pset.specs.declared.element.AbsPlace.{AbsPlace}
use Rattle.life_pset.specs.declared.element.Root.{Root}
use Rattle.life_store.specs.Content.{Content}
use Rattle.life_store.specs.Parts.{members_of, type_within, width_at, word_within}
use Rattle.life_store.proofs.CellLemmas.{none_some, some_same}
use Rattle.life_cover.specs.Regions.{Goes, IsAt, Lies, Region}

-- ---- paths

-- a place with room for so many steps more
pub record HasRoom (n : ℕ) (a : AbsPlace) : Type 0 where
  pub steps : length a.steps ≡ 8
  pub fits : a.length + n ≤ 8

-- no step is the one to what is owned
abbrev pub AllSmall : List ℕ → Type 0
AllSmall [] = Unit {0}
AllSmall (m ∷ ms) = (m < owned_step) × AllSmall ms

lt_true : (a b : ℕ) → a < b → nat_lt a b ≡ true
lt_true a b h = grind (arith, nat_tests)

take_set : (xs : List ℕ) (n s : ℕ) → n < length xs → take (suc n) (slice_set xs n s) ≡ take n xs ++ (s ∷ [])
take_set [] n s lt = absurd (omega (arith, lt))
take_set (x ∷ xs) zero s lt = refl
take_set (x ∷ xs) (suc n) s lt = ap (◌∷◌ x) (take_set xs n s (omega (arith, lt)))

pub stepped_is : (n : ℕ) (a : AbsPlace) (s : ℕ) → HasRoom (suc n) a → stepped a s ≡ longer a s
stepped_is n a s room = let f = room.fits in ap (λ b. if b then longer a s else too_long a) (lt_true a.length 8 (omega (arith, f)))

pub stepped_path : (n : ℕ) (a : AbsPlace) (s : ℕ) → HasRoom (suc n) a → path (stepped a s) ≡ path a ++ (s ∷ [])
stepped_path n a s room =
    let f = room.fits in
    let l = room.steps in
    let one : a.length + 1 ≡ suc a.length = omega arith in
    ap path (stepped_is n a s room) ∙ ap (λ k. take k (slice_set a.steps a.length s)) one ∙ take_set a.steps a.length s (omega (arith, f, l))

pub stepped_root : (n : ℕ) (a : AbsPlace) (s : ℕ) → HasRoom (suc n) a → (stepped a s).root ≡ a.root
stepped_root n a s room = ap (λ (b : AbsPlace). b.root) (stepped_is n a s room)

pub stepped_room : (n : ℕ) (a : AbsPlace) (s : ℕ) → HasRoom (suc n) a → HasRoom n (stepped a s)
stepped_room n a s room =
    subst (HasRoom n) (sym (stepped_is n a s room))
    (record { steps = length-set a.steps a.length s ∙ room.steps; fits = let f = room.fits in omega (arith, f) })

-- ---- regions

pub lies_then : (types : Types) (c : Content) (ss rr : List ℕ) (a b d : Region) → Lies types c ss a b → Lies types c rr b d → Lies types c (ss ++ rr) a d
lies_then types c [] rr a b d one two = subst (λ r. Lies types c rr r d) (sym one) two
lies_then types c (s ∷ ss) rr a b d one two = (one.0, one.1, lies_then types c ss rr one.0 b d one.2 two)

module _ (types : Types) (c : Content) (Stands : Root → Region → Type 0) where
  pub goes_at : (n : ℕ) (a : AbsPlace) (s : ℕ) (r d : Region) → HasRoom (suc n) a → IsAt types c Stands a r → Goes types c s r d → IsAt types c Stands (stepped a s) d
  goes_at n a s r d room at_r goes = record {
    start = at_r.start;
    stands = subst (λ x. Stands x at_r.start) (sym (stepped_root n a s room)) at_r.stands;
    lies = subst (λ ss. Lies types c ss at_r.start d) (sym (stepped_path n a s room)) (lies_then types c (path a) (s ∷ []) at_r.start r d at_r.lies (d, goes, refl));
  }

  -- a member of a member, and so on
  pub members_at : (ms : List ℕ) (a : AbsPlace) (r : Region) (item : TyId) → HasRoom (length ms) a → AllSmall ms → type_within types (Some r.ty) ms ≡ Some item → IsAt types c Stands a r
      → IsAt types c Stands (members_place a ms) (record { object = r.object; word = r.word + word_within types (Some r.ty) ms; ty = item })
  members_at [] a r item room small typed at_r = subst (IsAt types c Stands a) (same (some_same typed)) at_r
    where
      nothing : (w : ℕ) → w ≡ w + 0
      nothing w = omega arith

      same : r.ty ≡ item → r ≡ record { object = r.object; word = r.word + 0; ty = item }
      same e = ap (λ w. record { object = r.object; word = w; ty = r.ty }) (nothing r.word) ∙ ap (λ t. record { object = r.object; word = r.word + 0; ty = t }) e
  members_at (m ∷ ms) a r item room small typed at_r =
      go (λ b q h at_q. members_at ms b q item h small.1 at_q) (slice_get (members_of types r.ty) m) refl typed
    where
      nowhere : (ns : List ℕ) → type_within types None ns ≡ Some item → ⊥
      nowhere [] k = none_some k
      nowhere (n ∷ ns) k = none_some k

      first : ℕ
      first = sum_by (width_at types) (take m (members_of types r.ty))

      behind : (w v u : ℕ) → (w + v) + u ≡ w + (v + u)
      behind w v u = omega arith

      go : ((b : AbsPlace) (q : Region) → HasRoom (length ms) b → type_within types (Some q.ty) ms ≡ Some item → IsAt types c Stands b q
          → IsAt types c Stands (members_place b ms) (record { object = q.object; word = q.word + word_within types (Some q.ty) ms; ty = item }))
          → (x : Option TyId) → slice_get (members_of types r.ty) m ≡ x → type_within types x ms ≡ Some item
          → IsAt types c Stands (members_place (member_place a m) ms) (record { object = r.object; word = r.word + (sum_by (width_at types) (take m (members_of types r.ty)) + word_within types x ms); ty = item })
      go rest None e h = absurd (nowhere ms h)
      go rest (Some x) e h =
          let is : member_place a m ≡ stepped a m = ap (λ b. if b then stepped a m else too_long a) (lt_true m owned_step small.0) in
          let next = rest (stepped a m) (record { object = r.object; word = r.word + sum_by (width_at types) (take m (members_of types r.ty)); ty = x }) (stepped_room (length ms) a m room) h
          (goes_at (length ms) a m r (record { object = r.object; word = r.word + sum_by (width_at types) (take m (members_of types r.ty)); ty = x }) room at_r
          (inl (record { small = small.0; type = e; object = refl; word = refl }))) in
          subst (λ w. IsAt types c Stands (members_place (member_place a m) ms) (record { object = r.object; word = w; ty = item })) (behind r.word (sum_by (width_at types) (take m (members_of types r.ty))) (word_within types (Some x) ms))
          (subst (λ b. IsAt types c Stands (members_place b ms) (record { object = r.object; word = (r.word + sum_by (width_at types) (take m (members_of types r.ty))) + word_within types (Some x) ms; ty = item })) (sym is) next)
