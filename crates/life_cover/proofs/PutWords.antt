-- Words that are written to a slot: each vector and each string has its buffer behind them, where they own something wherever its word stands.
use Rattle.std.proofs.Common.{◌≡◌, ◌≢◌, ◌⊎◌, ⊎_elim, inl, inr, ℕ, zero, suc, ◌+◌, ◌<◌, true, List, [], ◌∷◌, length, Option, Some, None, refl, sym, ap, subst, ◌∙◌, arith, ◌≤◌}
use Rattle.std.specs.Prelude.{option_map, slice_get, slice_index, slice_set}
use Rattle.std.proofs.lemmas.List.{length-set}
use Rattle.life_types.specs.Types.{Types}
use Rattle.life_store.specs.Cells.{at}
use Rattle.life_store.specs.Content.{Slot, Object, Content, set_slot, with_word, written}
use Rattle.life_store.specs.Held.{owned_in, with_words, wrote, wrote_if}
use Rattle.life_store.specs.Parts.{Parts, parts_at, width}
use Rattle.life_store.proofs.CellLemmas.{cell_cases, none_some, set_cases, some_same}
use Rattle.life_store.proofs.MapLemmas.{one_or_apart}
use Rattle.life_forest.proofs.Above.{with_words_type}
use Rattle.life_cover.specs.Buffered.{AreBut, HasBuffers, is_buffer_at}
use Rattle.life_cover.proofs.BufferWords.{buffer_inside, set_cases_at}
use Rattle.life_cover.proofs.Buffering.{Each, Have}
use Rattle.life_cover.proofs.OwnersStay.{read_word}

-- ---- words

abbrev pub puts : (word : ℕ) → List ℕ → List ℕ → List ℕ
puts w [] xs = xs
puts w (v ∷ vs) xs = puts (w + 1) vs (slice_set xs w v)

-- one of them is what was written there, or what it was
pub record IsPut (w u : ℕ) (vs : List ℕ) (x : ℕ) : Type 0 where
  pub index : ℕ
  pub is : u ≡ w + index
  pub less : index < length vs
  pub value : x ≡ slice_index vs index

pub puts_cases : (vs xs : List ℕ) (w u : ℕ) → IsPut w u vs (slice_index (puts w vs xs) u) ⊎ (slice_index (puts w vs xs) u ≡ slice_index xs u)
puts_cases [] xs w u = inr refl
puts_cases (v ∷ vs) xs w u = ⊎_elim
    (λ h. let is = h.is in let less = h.less in inl (record { index = suc h.index; is = omega (arith, is); less = omega (arith, less); value = h.value }))
    (λ old. ⊎_elim (λ new. let same = new.0 in inl (record { index = 0; is = omega (arith, same); less = omega arith; value = old ∙ new.1 })) (λ same. inr (old ∙ same)) (set_cases_at xs w v u))
    (puts_cases vs (slice_set xs w v) (w + 1) u)

puts_low : (vs xs : List ℕ) (w u : ℕ) → u < w → slice_index (puts w vs xs) u ≡ slice_index xs u
puts_low vs xs w u lt = ⊎_elim (λ h. let is = h.is in absurd (omega (arith, is, lt))) (λ same. same) (puts_cases vs xs w u)

-- .. and what was written, where the slot has room
pub puts_new : (vs xs : List ℕ) (w j u : ℕ) → u ≡ w + j → j < length vs → w + length vs ≤ length xs → slice_index (puts w vs xs) u ≡ slice_index vs j
puts_new [] xs w j u is lt fits = absurd (omega (arith, lt))
puts_new (v ∷ vs) xs w zero u is lt fits =
    puts_low vs (slice_set xs w v) (w + 1) u (omega (arith, is)) ∙ ap (slice_index (slice_set xs w v)) (omega (arith, is)) ∙ read_word xs w v (omega (arith, fits))
puts_new (v ∷ vs) xs w (suc j) u is lt fits =
    puts_new vs (slice_set xs w v) (w + 1) j u (omega (arith, is)) (omega (arith, lt)) (let size = length-set xs w v in omega (arith, size, fits))

pub puts_has : (p : Parts) (w : ℕ) (vs xs : List ℕ) → HasBuffers p xs → ((j : ℕ) → j < length vs → is_buffer_at p (w + j) ≡ true → (b : ℕ) × (owned_in (slice_index vs j) ≡ Some b)) → HasBuffers p (puts w vs xs)
puts_has p w vs xs has new u e = ⊎_elim
    (λ h. let b = new h.index h.less (ap (is_buffer_at p) (sym h.is) ∙ e) in (b.0, ap owned_in h.value ∙ b.1))
    (λ old. let b = has u e in (b.0, ap owned_in old ∙ b.1)) (puts_cases vs xs w u)

-- all of a value
pub all_put : (p : Parts) (vs xs : List ℕ) → length vs ≡ width p → length xs ≡ width p → HasBuffers p vs → HasBuffers p (puts 0 vs xs)
all_put p vs xs wide room has u e =
    let lt = buffer_inside p u e in
    let b = has u e in
    (b.0, ap owned_in (puts_new vs xs 0 u u (omega arith) (omega (arith, lt, wide)) (omega (arith, wide, room))) ∙ b.1)

-- ---- slots

pub with_each : (P : List ℕ → Type 0) (vs : List ℕ) (i w : ℕ) (o : Object) → ((j : ℕ) (t : Slot) → slice_get o.slots j ≡ Some t → i ≢ j → P t.words) → ((t : Slot) → slice_get o.slots i ≡ Some t → P (puts w vs t.words)) → Each P (with_words i w vs o).slots
with_each P [] i w o old new = λ j t e. one_or_apart i j (λ same. new t (ap (slice_get o.slots) same ∙ e)) (λ ne. old j t e ne)
with_each P (v ∷ vs) i w o old new =
    with_each P vs i (w + 1) (with_word i w v o) (go_old (slice_get o.slots i) refl) (go_new (slice_get o.slots i) refl)
  where
    go_old : (x : Option Slot) → slice_get o.slots i ≡ x → (j : ℕ) (t : Slot) → slice_get (set_slot o.slots i (option_map (written w v) x)) j ≡ Some t → i ≢ j → P t.words
    go_old None at_i j t e ne = old j t e ne
    go_old (Some s) at_i j t e ne = ⊎_elim (λ same. absurd (ne same.0)) (λ other. old j t other.1 ne) (cell_cases o.slots i j (written w v s) t e)

    go_new : (x : Option Slot) → slice_get o.slots i ≡ x → (t : Slot) → slice_get (set_slot o.slots i (option_map (written w v) x)) i ≡ Some t → P (puts (w + 1) vs t.words)
    go_new None at_i t e = absurd (none_some (sym at_i ∙ e))
    go_new (Some s) at_i t e = ⊎_elim (λ same. subst (λ (x : Slot). P (puts (w + 1) vs x.words)) same.1 (new s at_i)) (λ other. absurd (other.0 refl)) (cell_cases o.slots i i (written w v s) t e)

module _ (types : Types) where
  -- an object that has them has them behind words that own
  pub with_have : (o : Object) (i w : ℕ) (vs : List ℕ) → Have types o → ((j : ℕ) → j < length vs → is_buffer_at (parts_at types o.ty) (w + j) ≡ true → (b : ℕ) × (owned_in (slice_index vs j) ≡ Some b)) → Have types (with_words i w vs o)
  with_have o i w vs have new =
      subst (λ (p : Parts). Each (HasBuffers p) (with_words i w vs o).slots) (ap (parts_at types) (sym (with_words_type i w vs o)))
      (with_each (HasBuffers (parts_at types o.ty)) vs i w o (λ j t e ne. have j t e) (λ t e. puts_has (parts_at types o.ty) w vs t.words (have i t e) new))

  -- .. and so does one whose other slots have them, and that is given a whole value
  pub value_have : (o : Object) (i : ℕ) (vs : List ℕ) (p : Parts) → parts_at types o.ty ≡ p → ((j : ℕ) (t : Slot) → slice_get o.slots j ≡ Some t → i ≢ j → HasBuffers p t.words) → ((t : Slot) → slice_get o.slots i ≡ Some t → length t.words ≡ width p) → length vs ≡ width p → HasBuffers p vs
      → Have types (with_words i 0 vs o)
  value_have o i vs p typed old room wide has =
      subst (λ (q : Parts). Each (HasBuffers q) (with_words i 0 vs o).slots) (sym (ap (parts_at types) (with_words_type i 0 vs o) ∙ typed))
      (with_each (HasBuffers p) vs i 0 o old (λ t e. all_put p vs t.words wide (room t e) has))

  pub wrote_but : (out : ℕ → Type 0) (n i w : ℕ) (vs : List ℕ) (c : Content) → ((o : Object) → at c.objects n ≡ Some o → (j : ℕ) → j < length vs → is_buffer_at (parts_at types o.ty) (w + j) ≡ true → (b : ℕ) × (owned_in (slice_index vs j) ≡ Some b)) → AreBut types out c
      → AreBut types out (wrote n i w vs c)
  wrote_but out n i w vs c new h = go (at c.objects n) refl
    where
      go : (o : Option Object) → at c.objects n ≡ o → AreBut types out (wrote_if o n i w vs c)
      go None e k j q s free there slot = h k j q s free there slot
      go (Some o) e k j q s free there slot =
          ⊎_elim
          (λ same. subst (λ (x : Object). (t : ℕ) (u : Slot) → slice_get x.slots t ≡ Some u → HasBuffers (parts_at types x.ty) u.words) (some_same (sym same.1 ∙ there)) (with_have o i w vs (λ t u at_t. h n t o u (λ gone. free (subst out same.0 gone)) e at_t) (new o e)) j s slot)
          (λ other. h k j q s free (sym other.1 ∙ there) slot)
          (set_cases c.objects n k (with_words i w vs o))
