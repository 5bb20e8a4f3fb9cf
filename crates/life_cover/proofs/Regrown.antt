-- Each vector and each string has its buffer where a vector grows: room is made, and a number is added.
use Rattle.std.proofs.Common.{◌≡◌, ⊎_elim, ℕ, suc, ◌+◌, ◌*◌, ◌≤◌, Bool, true, false, List, [], ◌∷◌, length, Option, Some, None, refl, sym, ap, subst, ◌∙◌, arith, ◌⊎◌, inl, inr}
use Rattle.std.specs.Prelude.{cond, nat_lt}
use Rattle.life_types.specs.Types.{Types}
use Rattle.life_types.specs.declared.ty.TyId.{TyId}
use Rattle.life_store.specs.Cells.{at, at-set_same}
use Rattle.life_store.specs.Content.{Object, Content, live_words_of, resized, with_birth, with_object, with_resize, without}
use Rattle.life_store.specs.Edits.{capacity_of, filled_by, grown, owns, pushed, put_last, regrown, reserved, size_of, with_room}
use Rattle.life_store.specs.Effects.{Got, Setting, then_get}
use Rattle.life_store.specs.Held.{filled, filled_if, filled_slots, resized_at, resized_if, slots_at, with_words, wrote, wrote_if}
use Rattle.life_store.specs.Owners.{birth, taken_slots}
use Rattle.life_store.specs.Parts.{Parts, Single, parts_at, width}
use Rattle.life_store.specs.declared.run.TrapKind.TheVariants as trap
use Rattle.life_store.proofs.CellLemmas.{set_cases, some_same}
use Rattle.life_forest.proofs.Above.{with_words_type}
use Rattle.life_forest.proofs.Coming.{IfGot, got_then, if_room}
use Rattle.life_forest.proofs.Stores.{if_such}
use Rattle.life_cover.specs.Buffered.{AreBut, HasBuffers}
use Rattle.life_cover.proofs.Buffering.{birth_but, filled_but, owns_but, resized_but, set_but, single_have, without_but, without_leaves, alone_have, have_in}
use Rattle.life_cover.proofs.SingleParts.{AreSingle}
use Rattle.life_cover.proofs.Rebuffering.{AreFree, AreTaken, IsOlder, IsSized, older_filled, older_then, older_without, single_in, sized_is, slots_taken}

module _ (types : Types) (bare : ℕ → Type 0) where
  -- ---- growth

  -- the new buffer, and what is left
  pub record IsGrown (ty : TyId) (c : Content) (f : ℕ × Content) : Type 0 where
    pub number : f.0 ≡ c.births
    pub type : (o : Object) → at f.1.objects f.0 ≡ Some o → o.ty ≡ ty
    pub buffers : AreBut types bare f.1
    pub older : IsOlder c f.1

  module _ (s : Setting) (ty : TyId) (element : Parts) (typed : parts_at types ty ≡ element) (b capacity size : ℕ) (c : Content) (old : AreFree types element (λ k. bare k ⊎ (k ≡ c.births)) (slots_at c b)) (h : AreBut types bare c) where
    abbrev pub begun : Content
    begun = resized_at c.births size 0 (with_birth ty (width element) capacity c)

    pub sized : IsSized c ty (width element) size (c.births, resized_at c.births size 0 (with_birth ty (width element) capacity c))
    sized = sized_is c ty (width element) capacity size

    abbrev pub vs : List (List ℕ) × Content
    vs = taken_slots element (slots_at c b) (resized_at c.births size 0 (with_birth ty (width element) capacity c))

    pub took : AreTaken types element (λ k. bare k ⊎ (k ≡ c.births)) c.births (length (slots_at c b)) (resized_at c.births size 0 (with_birth ty (width element) capacity c)) (taken_slots element (slots_at c b) (resized_at c.births size 0 (with_birth ty (width element) capacity c)))
    took =
        slots_taken types element (λ k. bare k ⊎ (k ≡ c.births)) c.births (inr refl) (slots_at c b) old (resized_at c.births size 0 (with_birth ty (width element) capacity c)) (let n = sized.births in omega (arith, n))
        (resized_but types (λ k. bare k ⊎ (k ≡ c.births)) c.births size 0 (with_birth ty (width element) capacity c) (inr refl) (birth_but types (λ k. bare k ⊎ (k ≡ c.births)) ty (width element) capacity c (λ k i o t free there slot. h k i o t (λ gone. free (inl gone)) there slot)))

    pub new_there : at (taken_slots element (slots_at c b) (resized_at c.births size 0 (with_birth ty (width element) capacity c))).1.objects c.births ≡ Some sized.object
    new_there = took.same ∙ sized.there

    pub new_is : (o : Object) → at (taken_slots element (slots_at c b) (resized_at c.births size 0 (with_birth ty (width element) capacity c))).1.objects c.births ≡ Some o → sized.object ≡ o
    new_is o there = some_same (sym new_there ∙ there)

    new_type : (o : Object) → at (filled c.births vs.0 vs.1).objects c.births ≡ Some o → o.ty ≡ ty
    new_type o there =
        ap (λ (x : Object). x.ty) (some_same (sym there ∙ ap (λ (x : Option Object). at (filled_if x c.births vs.0 vs.1).objects c.births) new_there ∙ at-set_same vs.1.objects c.births c.births (record (sized.object) { slots = filled_slots sized.object.slots vs.0 }) refl))
        ∙ sized.type

    filled_buffers : (size ≤ length (slots_at c b)) ⊎ (element ≡ Single) → AreBut types bare (filled c.births vs.0 vs.1)
    filled_buffers (inl le) =
        filled_but types bare c.births vs.0 vs.1 (λ o there. let n = ap (λ (x : Object). length x.slots) (new_is o there) in let m = sized.count in let r = took.count_is in omega (arith, n, m, r, le))
        (λ o there i ws e. subst (λ (q : Parts). HasBuffers q ws) (sym (ap (λ (x : Object). parts_at types x.ty) (sym (new_is o there)) ∙ ap (parts_at types) sized.type ∙ typed)) (took.has i ws e)) took.buffers
    filled_buffers (inr single) = single_in types bare c.births (filled c.births vs.0 vs.1) (λ o there. ap (parts_at types) (new_type o there) ∙ typed ∙ single) (go (at vs.1.objects c.births))
      where
        go : (o : Option Object) → AreBut types (λ k. bare k ⊎ (k ≡ c.births)) (filled_if o c.births vs.0 vs.1)
        go None = took.buffers
        go (Some o) = set_but types (λ k. bare k ⊎ (k ≡ c.births)) c.births (record o { slots = filled_slots o.slots vs.0 }) vs.1 (with_object c.births (record o { slots = filled_slots o.slots vs.0 }) vs.1) (inl (inr refl)) refl took.buffers

    result : (size ≤ length (slots_at c b)) ⊎ (element ≡ Single) → IsGrown ty c (c.births, without b (filled c.births vs.0 vs.1))
    result fits = record {
      number = refl;
      type = λ o there. new_type o (without_leaves types b (filled c.births vs.0 vs.1) c.births o there);
      buffers = without_but types bare b (filled c.births vs.0 vs.1) (filled_buffers fits);
      older = older_without c (filled c.births vs.0 vs.1) b (older_filled c vs.1 c.births vs.0 (omega arith) (older_then c begun vs.1 sized.older took.older));
    }

    pub regrown_buffered : (size ≤ length (slots_at c b)) ⊎ (element ≡ Single) → IfGot (regrown s ty element b capacity size c) (IsGrown ty c)
    regrown_buffered fits =
        got_then (birth s ty (width element) capacity c) (λ f. Got (f.0, without b (filled_by f.0 (taken_slots element (slots_at c b) (resized_at f.0 size 0 f.1))))) (λ f. f ≡ (c.births, with_birth ty (width element) capacity c)) (IsGrown ty c)
        (if_room (nat_lt s.given.cells (live_words_of c + (2 + width element * capacity))) trap.Cells (c.births, with_birth ty (width element) capacity c) (λ f. f ≡ (c.births, with_birth ty (width element) capacity c)) refl)
        (λ f e. subst (λ (g : ℕ × Content). IsGrown ty c (g.0, without b (filled_by g.0 (taken_slots element (slots_at c b) (resized_at g.0 size 0 g.1))))) (sym e) (result fits))

  -- room is made
  pub reserved_buffered : (s : Setting) (ty : TyId) (element : Parts) → parts_at types ty ≡ element → (n i w b count : ℕ) (c : Content) → AreFree types element (λ k. bare k ⊎ (k ≡ c.births)) (slots_at c b) → AreBut types bare c
      → IfGot (reserved s ty element (record { object = n; index = i; word = w }) b count c) (AreBut types bare)
  reserved_buffered s ty element typed n i w b count c old h = go (nat_lt (capacity_of c b) count)
    where
      go : (more : Bool) → IfGot (cond more (then_get (regrown s ty element b count (size_of c b) c) (λ f. Got (owns (record { object = n; index = i; word = w }) f.0 f.1))) (Got c)) (AreBut types bare)
      go false = h
      go true =
          got_then (regrown s ty element b count (size_of c b) c) (λ f. Got (owns (record { object = n; index = i; word = w }) f.0 f.1)) (IsGrown ty c) (AreBut types bare)
          (regrown_buffered s ty element typed b count (size_of c b) c old h (inl (omega arith)))
          (λ f g. owns_but types bare n i w f.0 f.1 g.buffers)

  -- ---- a number is added

  pub wrote_type : (n i w : ℕ) (ws : List ℕ) (d : Content) (k : ℕ) (o : Object) → at (wrote n i w ws d).objects k ≡ Some o → (x : Object) × (at d.objects k ≡ Some x) × (x.ty ≡ o.ty)
  wrote_type n i w ws d k o = go (at d.objects n) refl
    where
      go : (x : Option Object) → at d.objects n ≡ x → at (wrote_if x n i w ws d).objects k ≡ Some o → (y : Object) × (at d.objects k ≡ Some y) × (y.ty ≡ o.ty)
      go None e there = (o, there, refl)
      go (Some x) e there =
          ⊎_elim (λ same. (x, ap (at d.objects) (sym same.0) ∙ e, sym (with_words_type i w ws x) ∙ ap (λ (y : Object). y.ty) (some_same (sym same.1 ∙ there)))) (λ other. (o, sym other.1 ∙ there, refl))
          (set_cases d.objects n k (with_words i w ws x))

  pub wrote_single : (f i w : ℕ) (ws : List ℕ) (d : Content) → ((o : Object) → at d.objects f ≡ Some o → AreSingle (parts_at types o.ty)) → AreBut types bare d → AreBut types bare (wrote f i w ws d)
  wrote_single f i w ws d single h =
      have_in types bare f (wrote f i w ws d) (λ o there. let x = wrote_type f i w ws d f o there in alone_have types o (subst (λ (id : TyId). AreSingle (parts_at types id)) x.2 (single x.0 x.1))) (go (at d.objects f))
    where
      go : (x : Option Object) → AreBut types (λ k. bare k ⊎ (k ≡ f)) (wrote_if x f i w ws d)
      go None k j o t free there slot = h k j o t (λ gone. free (inl gone)) there slot
      go (Some x) k j o t free there slot =
          set_but types (λ m. bare m ⊎ (m ≡ f)) f (with_words i w ws x) d (with_object f (with_words i w ws x) d) (inl (inr refl)) refl (λ m n q u clear here at_u. h m n q u (λ gone. clear (inl gone)) here at_u) k j o t free there slot

  module _ (s : Setting) (ty : TyId) (single : parts_at types ty ≡ Single) (b : ℕ) (c : Content) (h : AreBut types bare c) where
    record IsRoom (f : ℕ × Content) : Type 0 where
      pub type : (o : Object) → at f.1.objects f.0 ≡ Some o → o.ty ≡ ty
      pub buffers : AreBut types bare f.1

    pub pushed_buffered : (type : (o : Object) → at c.objects b ≡ Some o → o.ty ≡ ty) (old : AreFree types Single (λ k. bare k ⊎ (k ≡ c.births)) (slots_at c b)) (n i w : ℕ) (ws : List ℕ)
        → IfGot (pushed s ty Single (record { object = n; index = i; word = w }) b (λ d. (ws, d)) c) (AreBut types bare)
    pushed_buffered type old n i w ws =
        got_then (with_room s ty Single b c) (λ f. Got (put_last (record { object = n; index = i; word = w }) f.0 (size_of c b) (ws, f.1))) IsRoom (AreBut types bare) room
        (λ f r.
        wrote_single f.0 (size_of c b) 0 ws (owns (record { object = n; index = i; word = w }) f.0 f.1)
        (λ o there. let x = wrote_type n i w (suc f.0 ∷ []) f.1 f.0 o there in subst AreSingle (sym (ap (parts_at types) (sym x.2 ∙ r.type x.0 x.1) ∙ single)) tt)
        (owns_but types bare n i w f.0 f.1 r.buffers))
      where
        same_room : IsRoom (b, resized_at b (size_of c b + 1) (size_of c b) c)
        same_room = go (at c.objects b) refl
          where
            go : (x : Option Object) → at c.objects b ≡ x → IsRoom (b, resized_if x b (size_of c b + 1) (size_of c b) c)
            go None e = record { type = type; buffers = h }
            go (Some x) e = record {
              type = λ o there. ap (λ (y : Object). y.ty) (some_same (sym there ∙ at-set_same c.objects b b (resized (c.clock + 1) (size_of c b + 1) (size_of c b) x) refl)) ∙ type x e;
              buffers =
                  set_but types bare b (resized (c.clock + 1) (size_of c b + 1) (size_of c b) x) c (with_resize b (size_of c b + 1) (size_of c b) x c)
                  (inr (single_have types (resized (c.clock + 1) (size_of c b + 1) (size_of c b) x) (ap (parts_at types) (type x e) ∙ single))) refl (h);
            }

        room : IfGot (with_room s ty Single b c) IsRoom
        room = go (nat_lt (size_of c b) (capacity_of c b))
          where
            go : (full : Bool) → IfGot (cond full (Got (b, resized_at b (size_of c b + 1) (size_of c b) c)) (regrown s ty Single b (grown s.given.growth (size_of c b) (capacity_of c b)) (size_of c b + 1) c)) IsRoom
            go true = same_room
            go false =
                if_such (regrown s ty Single b (grown s.given.growth (size_of c b) (capacity_of c b)) (size_of c b + 1) c) (IsGrown ty c) IsRoom
                (regrown_buffered s ty Single single b (grown s.given.growth (size_of c b) (capacity_of c b)) (size_of c b + 1) c old h (inr refl))
                (λ f g. record { type = g.type; buffers = g.buffers })
