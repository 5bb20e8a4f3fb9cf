-- A vector or a string takes the buffer of a whole object: it has a buffer then, and that object may be bare.
use Rattle.std.proofs.Common.{◌≡◌, ◌≢◌, ◌⊎◌, inl, inr, ⊎_elim, ℕ, suc, ◌≤◌, ◌<◌, List, [], ◌∷◌, length, Option, Some, None, refl, sym, ap, subst, ◌∙◌, arith}
use Rattle.std.specs.Prelude.{slice_set}
use Rattle.life_types.specs.Types.{Types}
use Rattle.life_store.specs.Cells.{at, at-set_other, at-set_same, at-unset_other}
use Rattle.life_store.specs.Content.{Object, Content, with_object, without}
use Rattle.life_store.specs.Doing.{moved_to}
use Rattle.life_store.specs.Held.{owned_in, owner_word, with_words, wrote, wrote_if}
use Rattle.life_store.specs.Owners.{Words, ended, renamed_if, taken}
use Rattle.life_store.specs.Parts.{Parts, Text, Vector, parts_at, width}
use Rattle.life_store.specs.Places.{spot_words}
use Rattle.life_store.proofs.CellLemmas.{none_some, some_same}
use Rattle.life_cover.specs.Buffered.{AreBut, HasBuffers}
use Rattle.life_cover.proofs.Buffering.{Have, IsOwnerAt, but_more, but_one, ended_but, ended_leaves, owns_but, rename_but, set_but}
use Rattle.life_cover.proofs.OwnersStay.{read_word}
use Rattle.life_cover.proofs.Recopying.{one_written}

-- a buffer that is taken has a number, and all but it is as it was
pub record IsTakenOver (types : Types) (bare : ℕ → Type 0) (b : ℕ) (c : Content) (v : Words) : Type 0 where
  pub number : ℕ
  pub row : v.0 ≡ suc number ∷ []
  pub buffers : AreBut types bare v.1
  pub births : c.births ≤ v.1.births
  pub others : (k : ℕ) → k < c.births → b ≢ k → at v.1.objects k ≡ at c.objects k

-- a vector or a string
abbrev pub IsBufferParts : Parts → Type 0
IsBufferParts (Text ty) = Unit {0}
IsBufferParts (Vector ty element) = Unit {0}
IsBufferParts _ = ⊥

module _ (types : Types) (bare : ℕ → Type 0) (b : ℕ) (clear : bare b → ⊥) (c : Content) (h : AreBut types bare c) where
  pub taken_over : (p : Parts) → IsBufferParts p → IsTakenOver types bare b c (taken p (suc b ∷ []) c)
  taken_over (Vector ty element) is = record { number = b; row = refl; buffers = h; births = omega arith; others = λ k lt ne. refl }
  taken_over (Text ty) is = go (at c.objects b) refl
    where
      go : (o : Option Object) → at c.objects b ≡ o → IsTakenOver types bare b c (renamed_if o b c)
      go None e = record { number = b; row = refl; buffers = h; births = omega arith; others = λ k lt ne. refl }
      go (Some o) e = record {
        number = c.births;
        row = refl;
        buffers = rename_but types bare b o c e clear h;
        births = omega arith;
        others = λ k lt ne. at-set_other (without b c).objects c.births k o (λ same. absurd (omega (arith, same, lt))) ∙ at-unset_other c.objects b k ne;
      }
  taken_over _ is = absurd is

  module _ (p : Parts) (is : IsBufferParts p) (m : ℕ) where
    abbrev v : Words
    v = taken p (suc b ∷ []) c

    over : IsTakenOver types bare b c (taken p (suc b ∷ []) c)
    over = taken_over p is

    -- the other one has nothing
    emptied : AreBut types (λ k. bare k ⊎ (k ≡ m)) (wrote m 0 0 (owner_word None ∷ []) (taken p (suc b ∷ []) c).1)
    emptied = go (at v.1.objects m)
      where
        more : AreBut types (λ k. bare k ⊎ (k ≡ m)) (taken p (suc b ∷ []) c).1
        more = but_more types bare (λ k. bare k ⊎ (k ≡ m)) v.1 (λ k gone. inl gone) over.buffers

        go : (o : Option Object) → AreBut types (λ k. bare k ⊎ (k ≡ m)) (wrote_if o m 0 0 (owner_word None ∷ []) (taken p (suc b ∷ []) c).1)
        go None = more
        go (Some o) = set_but types (λ k. bare k ⊎ (k ≡ m)) m (with_words 0 0 (owner_word None ∷ []) o) v.1 (with_object m (with_words 0 0 (owner_word None ∷ []) o) v.1) (inl (inr refl)) refl more

    abbrev pub left : Content
    left = wrote m 0 0 (owner_word None ∷ []) (taken p (suc b ∷ []) c).1

    -- ---- a place takes it, and nobody asks whether what that lies in is bare

    pub placed_buffered : (n i w : ℕ) → AreBut types (λ k. bare k ⊎ (k ≡ m)) (moved_to p (record { object = n; index = i; word = w }) m (taken p (suc b ∷ []) c))
    placed_buffered n i w =
        let e = ended p (spot_words left (record { object = n; index = i; word = w }) (width p)) left in
        subst (λ (ws : List ℕ). AreBut types (λ k. bare k ⊎ (k ≡ m)) (wrote_if (at (ended p (spot_words left (record { object = n; index = i; word = w }) (width p)) left).objects n) n i w ws (ended p (spot_words left (record { object = n; index = i; word = w }) (width p)) left))) (sym over.row)
        (owns_but types (λ k. bare k ⊎ (k ≡ m)) n i w over.number e (ended_but types (λ k. bare k ⊎ (k ≡ m)) p (spot_words left (record { object = n; index = i; word = w }) (width p)) left emptied))

    -- ---- all of an object of one slot takes it

    module _ (n : ℕ) (n_born : n < c.births) (apart : m ≢ n) (other : b ≢ n) (owner : IsOwnerAt types c n) (one : (o : Object) → at c.objects n ≡ Some o → length o.slots ≡ 1) where
      abbrev cut : Content
      cut = ended p (spot_words left (record { object = n; index = 0; word = 0 }) (width p)) left

      left_same : (k : ℕ) → k < c.births → b ≢ k → m ≢ k → at left.objects k ≡ at c.objects k
      left_same k lt ne_b ne_m = go (at v.1.objects m) ∙ over.others k lt ne_b
        where
          go : (o : Option Object) → at (wrote_if o m 0 0 (owner_word None ∷ []) (taken p (suc b ∷ []) c).1).objects k ≡ at (taken p (suc b ∷ []) c).1.objects k
          go None = refl
          go (Some o) = at-set_other v.1.objects m k (with_words 0 0 (owner_word None ∷ []) o) ne_m

      was : (o : Object) → at cut.objects n ≡ Some o → at c.objects n ≡ Some o
      was o there = sym (left_same n n_born other apart) ∙ ended_leaves types p (spot_words left (record { object = n; index = 0; word = 0 }) (width p)) left n o there

      cut_but : AreBut types (λ k. bare k ⊎ (k ≡ m)) cut
      cut_but = ended_but types (λ k. bare k ⊎ (k ≡ m)) p (spot_words left (record { object = n; index = 0; word = 0 }) (width p)) left emptied

      have : (j : ℕ) (o : Object) → at cut.objects n ≡ Some o → Have types (with_words 0 0 (suc j ∷ []) o)
      have j o there =
          let at_c = was o there in
          one_written (HasBuffers (parts_at types o.ty)) o.slots (suc j) (one o at_c) (λ t e. (owner o at_c).0 (slice_set t.words 0 (suc j)) j (ap owned_in (read_word t.words 0 (suc j) ((owner o at_c).1 0 t e))))

      pub moved_buffered : AreBut types (λ k. (bare k × (k ≢ n)) ⊎ (k ≡ m)) (moved_to p (record { object = n; index = 0; word = 0 }) m (taken p (suc b ∷ []) c))
      moved_buffered =
          subst (λ (ws : List ℕ). AreBut types (λ k. (bare k × (k ≢ n)) ⊎ (k ≡ m)) (wrote_if (at cut.objects n) n 0 0 ws cut)) (sym over.row)
          (but_more types (λ k. (bare k ⊎ (k ≡ m)) × (k ≢ n)) (λ k. (bare k × (k ≢ n)) ⊎ (k ≡ m)) (wrote_if (at cut.objects n) n 0 0 (suc over.number ∷ []) cut) (λ k gone. ⊎_elim (λ was_bare. inl (was_bare, gone.1)) (λ is_m. inr is_m) gone.0)
          (go (at cut.objects n) refl))
        where
          go : (x : Option Object) → at cut.objects n ≡ x → AreBut types (λ k. (bare k ⊎ (k ≡ m)) × (k ≢ n)) (wrote_if x n 0 0 (suc over.number ∷ []) cut)
          go None e = but_one types (λ k. bare k ⊎ (k ≡ m)) n cut (λ o there. absurd (none_some (sym e ∙ there))) cut_but
          go (Some o) e =
              but_one types (λ k. bare k ⊎ (k ≡ m)) n (with_object n (with_words 0 0 (suc over.number ∷ []) o) cut) (λ q there. subst (Have types) (some_same (sym (at-set_same cut.objects n n (with_words 0 0 (suc over.number ∷ []) o) refl) ∙ there)) (have over.number o e))
              (set_but types (λ k. bare k ⊎ (k ≡ m)) n (with_words 0 0 (suc over.number ∷ []) o) cut (with_object n (with_words 0 0 (suc over.number ∷ []) o) cut) (inr (have over.number o e)) refl cut_but)
