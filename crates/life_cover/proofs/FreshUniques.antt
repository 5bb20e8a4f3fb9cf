-- The unique_ptrs of a value that comes to life have nothing.
use Rattle.std.proofs.Common.{◌≡◌, ⊎_elim, ℕ, zero, suc, ◌+◌, ◌<◌, false, List, [], ◌∷◌, ◌++◌, length, length-append, Option, Some, None, refl, sym, ap, ◌∙◌, arith}
use Rattle.std.specs.Prelude.{drop, slice_get, slice_index, take}
use Rattle.std.proofs.lemmas.Bool.{false≢true}
use Rattle.life_types.specs.Trees.{IsOrdered}
use Rattle.life_types.specs.Types.{Types}
use Rattle.life_types.specs.declared.ty.TyId.{TyId}
use Rattle.life_core.specs.declared.instr.Form.{Form}
use Rattle.life_store.specs.Cells.{at, at-set_same}
use Rattle.life_store.specs.Content.{Content, Object}
use Rattle.life_store.specs.Effects.{Setting, Attempt, Got, GotTrap, GotFault, GotLost, then_get}
use Rattle.life_store.specs.Held.{owned_in, owner_word, slots_if, words_at, words_if, wrote}
use Rattle.life_store.specs.Kinds.{Owner, first_owns, kind_in}
use Rattle.life_store.specs.Owners.{birth, born_pointer, empty_view, fresh, object_with, owning, sized_birth}
use Rattle.life_store.specs.Parts.{Parts, Single, Raw, Iterates, Views, Text, Vector, Unique, Member, NoMember, parts_at, width, width_at}
use Rattle.life_store.specs.State.{Wild}
use Rattle.life_forest.specs.Kinds.{kinds_of, rank_of}
use Rattle.life_forest.specs.Owned.{times}
use Rattle.life_forest.specs.Typed.{IsStore}
use Rattle.life_forest.proofs.Begins.{behind, in_front, row_cases}
use Rattle.life_forest.proofs.Coming.{CameWords, IfGot, fresh_came, got_then}
use Rattle.life_forest.proofs.Copying.{Sized, sized_birth_came}
use Rattle.life_forest.proofs.FittingBirths.{got_both}
use Rattle.life_forest.proofs.HoldingWrites.{first_wide, first_written}
use Rattle.life_forest.proofs.Laying.{laid_at}
use Rattle.life_forest.proofs.MemberPointers.{five_words, part_back, sets}
use Rattle.life_forest.proofs.Puts.{puts_in, wrote_is}
use Rattle.life_cover.specs.Buffered.{is_buffer_at}
use Rattle.life_cover.specs.Uniques.{had_at}
use Rattle.life_cover.proofs.BufferWords.{append_back, append_front, drop_index, take_index}
use Rattle.life_cover.proofs.OtherTypes.{owner_first, unlike_plain, unlike_pointing}

-- the words of a value, where each owner that is no vector and no string has nothing
pub record NullWords (p : Parts) (ws : List ℕ) : Type 0 where
  pub wide : length ws ≡ width p
  pub null : (u : ℕ) → kind_in p u ≡ Owner → is_buffer_at p u ≡ false → slice_index ws u ≡ 0

null_joined : (first others : Parts) (xs ys : List ℕ) → NullWords first xs → NullWords others ys → NullWords (Member first others) (xs ++ ys)
null_joined first others xs ys one two = record {
  wide = let a = one.wide in let b = two.wide in let e = length-append xs ys in omega (arith, a, b, e);
  null = λ u e free. ⊎_elim
      (λ h. append_front xs ys u (let lt = h.0 in let a = one.wide in omega (arith, lt, a)) ∙ one.null u (sym h.1 ∙ e) (sym (in_front (width first) (is_buffer_at first) (is_buffer_at others) u h.0) ∙ free))
      (λ h. append_back xs ys h.0 u (let is = h.1 in let a = one.wide in omega (arith, is, a)) ∙ two.null h.0 (sym h.2 ∙ e) (sym (behind (width first) (is_buffer_at first) (is_buffer_at others) h.0 u h.1) ∙ free))
      (row_cases (width first) (kind_in first) (kind_in others) u);
}

anything : (x : Attempt (ℕ × Content)) → IfGot x (λ b. Unit {0})
anything (Got b) = tt
anything (GotTrap kind) = tt
anything (GotFault kind) = tt
anything GotLost = tt

first_null : (u : ℕ) → first_owns u ≡ Owner → slice_index (owner_word None ∷ []) u ≡ 0
first_null zero e = refl
first_null (suc u) e = absurd (unlike_plain e)

fresh_null : (s : Setting) (how : Form) (p : Parts) (d : Content) → IfGot (fresh s how p d) (λ v. NullWords p v.0)
fresh_null s how Single d = record { wide = refl; null = λ u e free. absurd (unlike_plain e) }
fresh_null s how Raw d = record { wide = five_words (born_pointer how); null = λ u e free. absurd (unlike_pointing u e) }
fresh_null s how Iterates d = record { wide = five_words Wild; null = λ u e free. absurd (unlike_pointing u e) }
fresh_null s how Views d = record { wide = five_words empty_view; null = λ u e free. absurd (unlike_pointing u e) }
fresh_null s how (Text ty) d =
    got_then (birth s ty 1 0 d) (λ b. Got (owning b)) (λ b. Unit {0}) (λ v. NullWords (Text ty) v.0) (anything (birth s ty 1 0 d)) (λ b h. record { wide = refl; null = λ u e free. absurd (false≢true (sym free ∙ owner_first u e)) })
fresh_null s how (Vector ty element) d =
    got_then (birth s ty (width element) 0 d) (λ b. Got (owning b)) (λ b. Unit {0}) (λ v. NullWords (Vector ty element) v.0) (anything (birth s ty (width element) 0 d))
    (λ b h. record { wide = refl; null = λ u e free. absurd (false≢true (sym free ∙ owner_first u e)) })
fresh_null s how (Unique ty target) d = record { wide = refl; null = λ u e free. first_null u e }
fresh_null s how (Member first others) d =
    got_then (fresh s how first d) (λ a. then_get (fresh s how others a.1) (λ b. Got (a.0 ++ b.0, b.1))) (λ v. NullWords first v.0) (λ v. NullWords (Member first others) v.0) (fresh_null s how first d)
    (λ a h. got_then (fresh s how others a.1) (λ b. Got (a.0 ++ b.0, b.1)) (λ v. NullWords others v.0) (λ v. NullWords (Member first others) v.0) (fresh_null s how others a.1) (λ b k. null_joined first others a.0 b.0 h k))
fresh_null s how NoMember d = record { wide = refl; null = λ u e free. absurd (unlike_plain e) }

-- ---- an object that comes to life

-- its unique_ptrs have nothing
abbrev pub AreNull : Types → TyId → Content → ℕ → Type 0
AreNull types ty d n = (u : ℕ) → u < width_at types ty → kind_in (parts_at types ty) u ≡ Owner → is_buffer_at (parts_at types ty) u ≡ false → had_at d n u ≡ None

module _ (types : Types) (ordered : IsOrdered types) (hand : ℕ → ℕ) (c : Content) (store : IsStore types hand c) where
  pub uniques_born : (s : Setting) (ty : TyId) (how : Form) → IfGot (object_with s ty (parts_at types ty) (fresh s how (parts_at types ty)) c) (λ b. AreNull types ty b.1 b.0)
  uniques_born s ty how =
      got_then (sized_birth s ty (width (parts_at types ty)) 1 c) (λ b. then_get (fresh s how (parts_at types ty) b.1) (λ v. Got (b.0, wrote b.0 0 0 v.0 v.1)))
      (Sized (kinds_of types) (suc (rank_of types ty)) hand ty (width (parts_at types ty)) 1 c) (λ b. AreNull types ty b.1 b.0)
      (sized_birth_came (kinds_of types) (suc (rank_of types ty)) hand ty (width (parts_at types ty)) 1 c (omega arith) store.forest s)
      (λ b sized. got_then (fresh s how (parts_at types ty) b.1) (λ v. Got (b.0, wrote b.0 0 0 v.0 v.1))
      (λ v. CameWords (kinds_of types) (rank_of types ty) (λ k. times (b.0 ∷ []) k + hand k) (parts_at types ty) b.1 v × NullWords (parts_at types ty) v.0) (λ x. AreNull types ty x.1 x.0)
      (got_both (fresh s how (parts_at types ty) b.1) (CameWords (kinds_of types) (rank_of types ty) (λ k. times (b.0 ∷ []) k + hand k) (parts_at types ty) b.1) (λ v. NullWords (parts_at types ty) v.0)
      (fresh_came (kinds_of types) s how (parts_at types ty) (rank_of types ty) (laid_at types ordered ty) (λ k. times (b.0 ∷ []) k + hand k) b.1 sized.came.forest)
      (fresh_null s how (parts_at types ty) b.1))
      (λ v h. written b.0 v.1 sized.object (h.0.0.same b.0 (sized.came.forest.births b.0 sized.object sized.there) ∙ sized.there)
      (first_wide (width_at types ty) sized.object.slots (let e = sized.count in omega (arith, e)) sized.wide) v.0 h.1))
    where
      written : (n : ℕ) (d : Content) (o : Object) → at d.objects n ≡ Some o → length (words_if (slice_get o.slots 0)) ≡ width_at types ty → (vs : List ℕ) → NullWords (parts_at types ty) vs → AreNull types ty (wrote n 0 0 vs d) n
      written n d o there long vs words u lt e free = ap (λ (ws : List ℕ). owned_in (slice_index ws 0)) read ∙ ap owned_in (take_index (drop u vs) 1 0 (omega arith) ∙ drop_index vs u 0 u (omega arith) ∙ words.null u e free)
        where
          read : words_at (wrote n 0 0 vs d) n 0 u 1 ≡ take 1 (drop u vs)
          read =
              let none : u ≡ 0 + u = omega arith in
              let wide = words.wide in
              ap (λ (e : Content). words_at e n 0 u 1) (wrote_is d n 0 0 vs o there)
              ∙ ap (λ (x : Option Object). take 1 (drop u (words_if (slice_get (slots_if x) 0)))) (at-set_same d.objects n n (record o { slots = puts_in 0 0 vs o.slots }) refl)
              ∙ ap (λ (ws : List ℕ). take 1 (drop u ws)) (first_written 0 vs o.slots)
              ∙ ap (λ (k : ℕ). take 1 (drop k (sets 0 vs (words_if (slice_get o.slots 0))))) none
              ∙ part_back 0 vs (words_if (slice_get o.slots 0)) (omega (arith, long, wide)) u 1 (omega (arith, lt, wide))
