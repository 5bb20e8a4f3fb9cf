-- An object with an owner stands above what it owns: it is none of that type, none of these owns it, and it stays where an owner gives what it has.
use Rattle.std.proofs.Common.{◌≡◌, ◌≢◌, ℕ, ◌+◌, ◌<◌, List, [], ◌∷◌, length, Option, Some, None, refl, sym, ap, ◌∙◌, arith}
use Rattle.life_types.specs.Trees.{IsOrdered}
use Rattle.life_types.specs.Types.{Types}
use Rattle.life_types.specs.declared.ty.TyId.{TyId}
use Rattle.life_store.specs.Cells.{at, at-set_same, at-set_other}
use Rattle.life_store.specs.Content.{Object, Content, with_word}
use Rattle.life_store.specs.Held.{owner_word, with_words, wrote, wrote_if}
use Rattle.life_store.specs.Owners.{taken}
use Rattle.life_store.specs.Parts.{parts_at, width_at}
use Rattle.life_store.specs.Places.{spot_words}
use Rattle.life_store.proofs.CellLemmas.{some_same}
use Rattle.life_store.proofs.Housing.{with_word_length}
use Rattle.life_store.proofs.MapLemmas.{one_or_apart}
use Rattle.life_forest.specs.Kinds.{kinds_of, owned_type, rank_of}
use Rattle.life_store.specs.Kinds.{Owner, kind_in}
use Rattle.life_forest.specs.Owned.{every, times, owns}
use Rattle.life_forest.specs.Typed.{IsStore}
use Rattle.life_forest.specs.Values.{owned_of}
use Rattle.life_forest.specs.Within.{LiesWithin}
use Rattle.life_forest.proofs.Beside.{taken_stays}
use Rattle.life_forest.proofs.Laying.{made_at}
use Rattle.life_forest.proofs.Owners.{ws_wide}
use Rattle.life_forest.proofs.Spots.{spot_flat}
use Rattle.life_forest.proofs.Stores.{flat_lower, lesser}

-- ---- an object that is written keeps its type and its slots

pub with_words_type : (i w : ℕ) (vs : List ℕ) (o : Object) → (with_words i w vs o).ty ≡ o.ty
with_words_type i w [] o = refl
with_words_type i w (v ∷ vs) o = with_words_type i (w + 1) vs (with_word i w v o)

pub with_words_size : (i w : ℕ) (vs : List ℕ) (o : Object) → length (with_words i w vs o).slots ≡ length o.slots
with_words_size i w [] o = refl
with_words_size i w (v ∷ vs) o = with_words_size i (w + 1) vs (with_word i w v o) ∙ with_word_length i w v o

-- an object of the same type with as many slots is there
pub record Remains (c : Content) (n : ℕ) (o : Object) : Type 0 where
  pub object : Object
  pub there : at c.objects n ≡ Some object
  pub type : object.ty ≡ o.ty
  pub size : length object.slots ≡ length o.slots

pub remains_written : (c : Content) (m i w : ℕ) (vs : List ℕ) (n : ℕ) (o : Object) → at c.objects n ≡ Some o → Remains (wrote m i w vs c) n o
remains_written c m i w vs n o there = go (at c.objects m) refl
  where
    go : (x : Option Object) → at c.objects m ≡ x → Remains (wrote_if x m i w vs c) n o
    go None e = record { object = o; there = there; type = refl; size = refl }
    go (Some q) e = one_or_apart m n
        (λ k. let same : q ≡ o = some_same (sym e ∙ ap (at c.objects) k ∙ there) in
        record {
          object = with_words i w vs q;
          there = at-set_same c.objects m n (with_words i w vs q) k;
          type = with_words_type i w vs q ∙ ap (λ (z : Object). z.ty) same;
          size = with_words_size i w vs q ∙ ap (λ (z : Object). length z.slots) same;
        })
        (λ ne. record { object = o; there = at-set_other c.objects m n (with_words i w vs q) ne ∙ there; type = refl; size = refl })

module _ (types : Types) (ordered : IsOrdered types) (hand : ℕ → ℕ) (c : Content) (store : IsStore types hand c) where
  module _ (n w : ℕ) (part : TyId) (o : Object) (there : at c.objects n ≡ Some o) (within : LiesWithin types o.ty w part) where
    -- ---- above what is owned

    pub owner_above : (ty : TyId) → 0 < width_at types part → kind_in (parts_at types part) 0 ≡ Owner → owned_type (parts_at types part) 0 ≡ Some ty → rank_of types ty < rank_of types o.ty
    owner_above ty some owner owned =
        lesser types ordered (rank_of types o.ty) (parts_at types o.ty) (made_at types ordered o.ty) (w + 0) ty (within.words 0 some ∙ owner) (within.owners 0 some ∙ owned)

    -- an object below it is another one, and doesn't own it
    pub above_apart : (m : ℕ) (om : Object) → at c.objects m ≡ Some om → rank_of types om.ty < rank_of types o.ty → n ≢ m
    above_apart m om m_there lower e =
        let same = ap (λ (z : Object). rank_of types z.ty) (some_same (sym there ∙ ap (at c.objects) e ∙ m_there)) in
        omega (arith, same, lower)

    pub above_unowned : (m : ℕ) (om : Object) → at c.objects m ≡ Some om → rank_of types om.ty < rank_of types o.ty → owns (kinds_of types) every om n ≡ 0
    above_unowned m om m_there lower =
        one_or_apart (owns (kinds_of types) every om n) 0 (λ z. z)
        (λ nz. let own : 0 < owns (kinds_of types) every om n = omega arith in let l = store.forest.lower m n om o m_there own there in absurd (omega (arith, l, lower)))

    -- ---- it stays where an owner of the same type gives what it has

    pub remains_moved : (m : ℕ) (om : Object) → at c.objects m ≡ Some om → LiesWithin types om.ty 0 part → 0 < length om.slots → width_at types part ≡ 1
        → Remains (wrote m 0 0 (owner_word None ∷ []) (taken (parts_at types part) (spot_words c (record { object = m; index = 0; word = 0 }) (width_at types part)) c).1) n o
    remains_moved m om m_there m_within m_slot one =
        remains_written (taken (parts_at types part) (spot_words c (record { object = m; index = 0; word = 0 }) (width_at types part)) c).1 m 0 0 (owner_word None ∷ []) n o
        (taken_stays (parts_at types part) (spot_words c (record { object = m; index = 0; word = 0 }) (width_at types part)) c n (store.forest.births n o there) not_taken ∙ there)
      where
        not_taken : times (owned_of (parts_at types part) (spot_words c (record { object = m; index = 0; word = 0 }) (width_at types part))) n ≡ 0
        not_taken = one_or_apart (times (owned_of (parts_at types part) (spot_words c (record { object = m; index = 0; word = 0 }) (width_at types part))) n) 0 (λ z. z)
            (λ nz. let l = flat_lower types ordered c o.ty part w (spot_words c (record { object = m; index = 0; word = 0 }) (width_at types part)) within (ws_wide types ordered hand c store m part om m_there m_within m_slot one) (spot_flat types ordered hand c store m 0 0 part om m_there m_within m_slot) n o (omega arith) there in
            absurd (omega (arith, l)))
