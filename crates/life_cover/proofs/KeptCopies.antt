-- Where a number is saved, a value is copied, or a local comes to life, in a frame, each vector and each string has its buffer; and what
-- is touched lies beneath what the frame names.
use Rattle.std.proofs.Common.{◌≡◌, ⊎_elim, inr, ℕ, zero, suc, ◌+◌, ◌*◌, Bool, true, false, List, [], ◌∷◌, Option, Some, None, refl, sym, ap, subst, ◌∙◌, ◌≤◌, arith, length, ◌≢◌, ◌<◌}
use Rattle.std.proofs.lemmas.Bool.{false≢true}
use Rattle.std.specs.Prelude.{ℤ, cond, nat_lt, not, slice_get, slice_index}
use Rattle.life_types.specs.TypeTests.{is_value, is_void}
use Rattle.life_types.specs.Trees.{IsOrdered, holds_unique}
use Rattle.life_types.specs.Types.{Types, class}
use Rattle.life_types.specs.declared.ty.Ty.{Ty}
use Rattle.life_types.specs.declared.ty.Ty.TheVariants as ty
use Rattle.life_types.specs.declared.ty.TyId.{TyId}
use Rattle.life_core.specs.declared.instr.Form.{Form}
use Rattle.life_core.specs.declared.program.Local.{Local}
use Rattle.life_core.specs.declared.program.LocalKind.{LocalKind}
use Rattle.life_core.specs.Function.{Function}
use Rattle.life_core.specs.Holdings.{Holding, Blank, AnObject, ANumber, APointer, AView, held_by, held_if, sort_of}
use Rattle.life_core.specs.Operands.{Location, Operand, whole}
use Rattle.life_core.specs.Operands as named
use Rattle.life_core.specs.Step.{Copy, Live, Save}
use Rattle.life_pset.specs.Shapes as shapes
use Rattle.life_pset.specs.Shapes.{has_buffer, tree_if}
use Rattle.life_pset.specs.declared.element.Fact.{Fact}
use Rattle.life_pset.specs.declared.element.AbsPlace.{AbsPlace}
use Rattle.life_pset.specs.declared.element.Root.{Root}
use Rattle.life_pset.specs.declared.element.Root.TheVariants as root
use Rattle.life_pset.specs.Places.{path}
use Rattle.life_proper.specs.Placed.{type_at, type_of, is_const_place}
use Rattle.life_store.specs.Births.{born_object, born_owner, live_as, live_local, live_of, live_over, with_value_object}
use Rattle.life_store.specs.Cells.{at}
use Rattle.life_store.specs.Content.{Object, Slot, live_words_of, newborn, resized, with_birth, with_object, with_word, Content}
use Rattle.life_store.specs.Doing.{does, replaced, saved}
use Rattle.life_store.specs.Effects.{Effect, Next, Traps, Setting, cell, put_cell, put_content, word_of_number, Faults, Strays}
use Rattle.life_store.specs.Held.{owned_in, wrote_if}
use Rattle.life_store.specs.Owners.{fresh, object_with, born_pointer, empty_view, Words}
use Rattle.life_store.specs.Parts.{Parts, Single, Raw, Iterates, Views, Text, Vector, Unique, Member, NoMember, operand_parts, parts_at, parts_of, width}
use Rattle.life_store.specs.Places.{locate, on_found, operand_word}
use Rattle.life_store.specs.State.{Cell, Empty, Named, Number, Points, State, Wild}
use Rattle.life_store.specs.declared.run.TrapKind.TheVariants as trap
use Rattle.life_store.proofs.CellLemmas.{none_some, some_same}
use Rattle.life_forest.specs.Frames.{OnNext}
use Rattle.life_forest.specs.Kinds.{kinds_of}
use Rattle.life_forest.specs.Forest.{Touches}
use Rattle.life_forest.specs.Values.{AllWide}
use Rattle.life_forest.proofs.Frames.{on_got_next}
use Rattle.life_forest.proofs.Laying.{parts_made}
use Rattle.life_forest.proofs.StandingChanges.{on_number_next}
use Rattle.life_cover.specs.Buffered.{AreBut, is_buffer_at}
use Rattle.life_cover.specs.Frames.{RootStands}
use Rattle.life_cover.specs.Inputs.{may_change, owning, StandsAt}
use Rattle.life_cover.specs.Lacking.{IsUnmoved, MayLack}
use Rattle.life_cover.specs.Regions.{Lies, Region}
use Rattle.life_cover.proofs.Buffering.{birth_but, set_but, single_have, Have, but_more, but_one}
use Rattle.life_cover.proofs.CopyKinds.{IsWritten, copy_right, into_parts, owned_or_single, single_written}
use Rattle.life_cover.proofs.SingleParts.{AreSingle}
use Rattle.life_cover.proofs.PutWords.{wrote_but}
use Rattle.life_cover.proofs.Lacking.{local_whole}
use Rattle.life_cover.proofs.Opening.{region_part}
use Rattle.life_cover.proofs.UniquesStay.{had_beside, had_nothing}
use Rattle.life_cover.proofs.OtherTypes.{copied_other}
use Rattle.life_cover.proofs.KnownFrames.{IsKnownFrame, IsRight, hand_of, store_of, solid_type, buffer_memberless}
use Rattle.life_cover.proofs.Reaching.{IsReached, Reach, reached, fixed, outside, astray}
use Rattle.life_cover.proofs.Recopying.{born_buffered, replaced_buffered, replaced_one}
use Rattle.life_cover.proofs.SaveKinds.{value_there, saved_touches}
use Rattle.life_cover.proofs.Behind.{IsBehind, behind_cell, behind_content, behind_pointer, both_got, right_next, no_local, behind_more, no_location}
use Rattle.life_cover.proofs.Sparing.{nothing_spares, change_spares}
use Rattle.life_cover.proofs.Births.{IsNew, owner_new, value_touches}
use Rattle.life_cover.proofs.Unkilled.{no_foot}
use Rattle.life_contract.specs.Signatures.{Signature}
use Rattle.life_contract.specs.Located.{located}
use Rattle.life_types.specs.declared.place.Place.{Place}
use Rattle.life_cover.proofs.BufferWords.{part_words}

next_more : (e : Effect) (A B : State → Type 0) → OnNext e A → ((after : State) → A after → B after) → OnNext e B
next_more (Next after) A B h more = more after h
next_more (Traps kind) A B h more = tt
next_more (Faults kind) A B h more = tt
next_more Strays A B h more = tt

-- what may be bare, and isn't named by this local
abbrev pub ReplacedBare : Types → Function → (rest : ℕ → ℕ) (inputs : Root → Option Region) (S : Fact → Type 0) → State → (x : ℕ) → ℕ → Type 0
ReplacedBare types f rest inputs S st x n = MayLack types f inputs S st n × (slice_get st.cells x ≡ Some (Named n) → ⊥)

module _ (types : Types) (f : Function) (rest : ℕ → ℕ) (inputs : Root → Option Region) (S : Fact → Type 0) (st : State) (k : IsKnownFrame types f rest inputs S st) (o : Operand) (s : Setting) where
  -- ---- a number is saved

  module _ (value : is_value (type_of types f o) ≡ true) where
    saved_buffered : (r : IsReached types f st (StandsAt inputs) (may_change types f) S o) (word : ℕ) → AreBut types (MayLack types f inputs S st) (with_object r.region.object (with_word r.index r.region.word word r.holder) st.world.content)
    saved_buffered r word =
        subst (AreBut types (MayLack types f inputs S st)) (ap (λ (x : Option Object). wrote_if x r.region.object r.index r.region.word (word ∷ []) st.world.content) r.there)
        (wrote_but types (MayLack types f inputs S st) r.region.object r.index r.region.word (word ∷ []) st.world.content none k.buffered)
      where
        -- a number's word is no owner's
        none : (x : Object) → at st.world.content.objects r.region.object ≡ Some x → (j : ℕ) → j < length (word ∷ []) → is_buffer_at (parts_at types x.ty) (r.region.word + j) ≡ true → (b : ℕ) × (owned_in (slice_index (word ∷ []) j) ≡ Some b)
        none x there zero lt e =
            let single = value_there types f rest inputs S st k o r value in
            absurd (false≢true (sym (part_words types k.ordered x.ty r.region.word r.region.ty (region_part types f rest inputs S st k o r x there) 0 (let one = ap width single in omega (arith, one)) ∙ ap (λ (q : Parts). is_buffer_at q 0) single) ∙ e))
        none x there (suc j) lt e = absurd (omega (arith, lt))

    found_saved : Reach types f st (StandsAt inputs) (may_change types f) S o → (z : ℤ) → OnNext (on_found (locate types f o st) (λ n i object. Next (saved z n i (operand_word types f o st) object st))) (IsBehind types f inputs (MayLack types f inputs S st) no_local no_location st)
    found_saved (reached r) z =
        subst (λ found. OnNext (on_found found (λ n i object. Next (saved z n i (operand_word types f o st) object st))) (IsBehind types f inputs (MayLack types f inputs S st) no_local no_location st)) (sym r.found)
        (subst (λ w. IsBehind types f inputs (MayLack types f inputs S st) no_local no_location st (put_content (with_object r.region.object (with_word r.index w (word_of_number z) r.holder) st.world.content) st)) (sym r.word)
        (behind_content types f inputs (MayLack types f inputs S st) no_local no_location st (with_object r.region.object (with_word r.index r.region.word (word_of_number z) r.holder) st.world.content) (saved_buffered r (word_of_number z))
        (nothing_spares types f rest inputs S st k (with_object r.region.object (with_word r.index r.region.word (word_of_number z) r.holder) st.world.content) (saved_touches types f rest inputs S st k o r value (word_of_number z)))
        (λ x n e unique. inr (had_nothing types f rest inputs S st k (with_object r.region.object (with_word r.index r.region.word (word_of_number z) r.holder) st.world.content) (saved_touches types f rest inputs S st k o r value (word_of_number z)) x n e unique))))
    found_saved (fixed c e single) z = subst (λ found. OnNext (on_found found (λ n i object. Next (saved z n i (operand_word types f o st) object st))) (IsBehind types f inputs (MayLack types f inputs S st) no_local no_location st)) (sym e) tt
    found_saved (outside e) z = subst (λ found. OnNext (on_found found (λ n i object. Next (saved z n i (operand_word types f o st) object st))) (IsBehind types f inputs (MayLack types f inputs S st) no_local no_location st)) (sym e) tt
    found_saved (astray e) z = subst (λ found. OnNext (on_found found (λ n i object. Next (saved z n i (operand_word types f o st) object st))) (IsBehind types f inputs (MayLack types f inputs S st) no_local no_location st)) (sym e) tt

    pub save_behind : Reach types f st (StandsAt inputs) (may_change types f) S o → (q : ℕ) → OnNext (does s types f (Save o q) st) (IsBehind types f inputs (MayLack types f inputs S st) no_local no_location st)
    save_behind reach q = on_number_next (cell st q) (λ z. on_found (locate types f o st) (λ n i object. Next (saved z n i (operand_word types f o st) object st))) (IsBehind types f inputs (MayLack types f inputs S st) no_local no_location st) (found_saved reach)

  -- a local that is written by its name isn't bare
  abbrev pub CopiedBare : Operand → ℕ → Type 0
  CopiedBare (named.Name l) n = ReplacedBare types f rest inputs S st l.local n
  CopiedBare (named.Through p members) n = MayLack types f inputs S st n

  pub written_bare : (q : Operand) → is_void (type_of types f q) ≡ false → (r : IsReached types f st (StandsAt inputs) (may_change types f) S q) (after : State) → AreBut types (MayLack types f inputs S st) after.world.content
      → (parts_at types r.holder.ty ≡ parts_at types r.region.ty → r.region.word ≡ 0 → length r.holder.slots ≡ 1 → (x : Object) → at after.world.content.objects r.region.object ≡ Some x → Have types x) → AreBut types (CopiedBare q) after.world.content
  written_bare (named.Through p members) solid r after h have = h
  written_bare (named.Name l) solid r after h have = go l.members refl
    where
      at_root : whole l.local ≡ l → (r.place.root ≡ root.Local l.local) × (path r.place ≡ [])
      at_root is = (ap (λ (a : AbsPlace). a.root) (r.by ∙ ap located (sym is)), ap path (r.by ∙ ap located (sym is)))

      by : whole l.local ≡ l → AreBut types (CopiedBare (named.Name l)) after.world.content
      by is =
          let a = at_root is in
          let start : r.lies.start ≡ r.region = subst (λ (ss : List ℕ). Lies types st.world.content ss r.lies.start r.region) a.1 r.lies.lies in
          let stands = subst (λ (ro : Root). RootStands types f (StandsAt inputs) st.cells ro r.lies.start) a.0 r.lies.stands in
          let named_it : slice_get st.cells l.local ≡ Some (Named r.region.object) = stands.0 ∙ ap (λ (z : Region). Some (Named z.object)) start in
          let v = k.stands.frame.objects l.local r.region.object named_it in
          but_more types (λ n. MayLack types f inputs S st n × (n ≢ r.region.object)) (CopiedBare (named.Name l)) after.world.content
          (λ n b. (b.0, λ e. b.1 (same (some_same (sym e ∙ named_it)))))
          (but_one types (MayLack types f inputs S st) r.region.object after.world.content
          (have (ap (parts_at types) (ap (λ (x : Object). x.ty) (some_same (sym r.there ∙ v.there)) ∙ some_same (sym v.type ∙ stands.2) ∙ ap (λ (z : Region). z.ty) start)) (ap (λ (z : Region). z.word) (sym start) ∙ stands.1)
          (ap (λ (x : Object). length x.slots) (some_same (sym r.there ∙ v.there)) ∙ ap length v.one)) h)
        where
          same : {i j : ℕ} → Named i ≡ Named j → i ≡ j
          same e = cc

      -- a struct is never moved from
      never : (m : ℕ) (ms : List ℕ) → l.members ≡ m ∷ ms → has_buffer (type_at types f l.local) ≡ true → IsUnmoved S l.local
      never m ms e buffer = absurd (unlike (sym e ∙ buffer_memberless types (shapes.local_type types f l.local) l.members buffer (solid_type types f rest inputs S st k (named.Name l) solid)))
        where
          unlike : m ∷ ms ≡ [] → ⊥
          unlike h = cc

      go : (ms : List ℕ) → l.members ≡ ms → AreBut types (CopiedBare (named.Name l)) after.world.content
      go [] e = by (ap (λ (ms : List ℕ). record { local = l.local; members = ms }) (sym e))
      go (m ∷ ms) e =
          but_more types (MayLack types f inputs S st) (CopiedBare (named.Name l)) after.world.content
          (λ j lacks. (lacks, λ named. local_whole types f rest inputs S st k l.local j named (never m ms e) lacks)) h

-- .. and what is touched is what is owned there
module _ (types : Types) (f : Function) (rest : ℕ → ℕ) (inputs : Root → Option Region) (S : Fact → Type 0) (st : State) (k : IsKnownFrame types f rest inputs S st) (sigs : List Signature) (n : ℕ) (place : Place) (S' : Fact → Type 0) (s : Setting) (to from : Operand)
    (free : is_const_place types f to ≡ false) (right : IsRight sigs types n f place (Copy to from) S S') (solid_to : is_void (type_of types f to) ≡ false) (solid_from : is_void (type_of types f from) ≡ false) (alike : type_of types f to ≡ type_of types f from) where
  -- each vector and each string has its buffer
  copy_buffered : (r : IsReached types f st (StandsAt inputs) (may_change types f) S to) (v : Words) → IsWritten types f rest inputs S st k sigs n place S' s to from free right solid_to solid_from alike r v
      → AreBut types (CopiedBare types f rest inputs S st k to s to) (replaced (operand_parts types f to) (record { object = r.region.object; index = r.index; word = r.region.word }) v)
  copy_buffered r v written =
      written_bare types f rest inputs S st k to s to solid_to r (put_content (replaced p (record { object = r.region.object; index = r.index; word = r.region.word }) v) st)
      (replaced_buffered types k.ordered s (MayLack types f inputs S st) p r.region.object r.index r.region.word st.world.content v written.copied born
      (λ o there u lt. part_words types k.ordered o.ty r.region.word r.region.ty (region_part types f rest inputs S st k to r o there) u (let e = ap width parts in omega (arith, lt, e)) ∙ ap (λ (q : Parts). is_buffer_at q u) parts))
      (λ same zero one x there.
      replaced_one types k.ordered s p (MayLack types f inputs S st) r.region.object st.world.content v written.copied born
      (λ o is. (
        ap (λ (y : Object). parts_at types y.ty) (same_holder o is) ∙ same ∙ parts,
        ap (λ (y : Object). length y.slots) (same_holder o is) ∙ one,
        (λ t e. first_wide r.holder.width r.holder.slots t (k.stands.store.fit r.region.object r.holder r.there).slots (ap (λ (y : Object). slice_get y.slots 0) (sym (same_holder o is)) ∙ e) ∙ (k.stands.store.fit r.region.object r.holder r.there).width ∙ ap width (same ∙ parts)),
      )) x
      (subst (λ i. at (replaced p (record { object = r.region.object; index = i; word = 0 }) v).objects r.region.object ≡ Some x) (first (length r.holder.slots) one r.small)
      (subst (λ w. at (replaced p (record { object = r.region.object; index = r.index; word = w }) v).objects r.region.object ≡ Some x) zero there)))
    where
      p : Parts
      p = operand_parts types f to

      parts : parts_at types r.region.ty ≡ operand_parts types f to
      parts = into_parts types f rest inputs S st k sigs n place S' s to from free right solid_to solid_from alike r

      born : r.region.object < st.world.content.births
      born = k.stands.store.forest.births r.region.object r.holder r.there

      same_holder : (x : Object) → at st.world.content.objects r.region.object ≡ Some x → x ≡ r.holder
      same_holder x there = some_same (sym there ∙ r.there)

      first : (m : ℕ) → m ≡ 1 → r.index < m → r.index ≡ 0
      first m e lt = omega (arith, e, lt)

      first_wide : (w : ℕ) (ss : List Slot) (t : Slot) → AllWide w ss → slice_get ss 0 ≡ Some t → length t.words ≡ w
      first_wide w [] t h e = absurd (none_some e)
      first_wide w (x ∷ xs) t h e = subst (λ (y : Slot). length y.words ≡ w) (some_same e) h.0

  pub copy_behind : not (holds_unique (tree_if types (shapes.operand_type types f to))) ≡ true → OnNext (does s types f (Copy to from) st) (IsBehind types f inputs (CopiedBare types f rest inputs S st k to s to) no_local no_location st)
  copy_behind can =
      right_next (does s types f (Copy to from) st) (IsBehind types f inputs (CopiedBare types f rest inputs S st k to s to) no_local no_location st)
      (copy_right types f rest inputs S st k sigs n place S' s to from free right solid_to solid_from alike (IsBehind types f inputs (CopiedBare types f rest inputs S st k to s to) no_local no_location st)
      (λ r v written. ⊎_elim (λ own. by_owner r v written own) (λ single. by_values r v written single) (owned_or_single types f rest inputs S st k sigs n place S' s to from free right solid_to solid_from alike r)))
    where
      by_owner : (r : IsReached types f st (StandsAt inputs) (may_change types f) S to) (v : Words) → IsWritten types f rest inputs S st k sigs n place S' s to from free right solid_to solid_from alike r v → owning types f r.place.root ≡ true
          → IsBehind types f inputs (CopiedBare types f rest inputs S st k to s to) no_local no_location st (put_content (replaced (operand_parts types f to) (record { object = r.region.object; index = r.index; word = r.region.word }) v) st)
      by_owner r v written own =
          behind_content types f inputs (CopiedBare types f rest inputs S st k to s to) no_local no_location st (replaced (operand_parts types f to) (record { object = r.region.object; index = r.index; word = r.region.word }) v) (copy_buffered r v written)
          (change_spares types f rest inputs S st k to r own (replaced (operand_parts types f to) (record { object = r.region.object; index = r.index; word = r.region.word }) v) written.touches)
          (λ x j e unique. inr (had_beside types f rest inputs S st k r.region (region_part types f rest inputs S st k to r) (copied_other types f rest inputs S st k to r solid_to can)
          (replaced (operand_parts types f to) (record { object = r.region.object; index = r.index; word = r.region.word }) v) written.touches x j e unique))

      by_values : (r : IsReached types f st (StandsAt inputs) (may_change types f) S to) (v : Words) → IsWritten types f rest inputs S st k sigs n place S' s to from free right solid_to solid_from alike r v → AreSingle (operand_parts types f to)
          → IsBehind types f inputs (CopiedBare types f rest inputs S st k to s to) no_local no_location st (put_content (replaced (operand_parts types f to) (record { object = r.region.object; index = r.index; word = r.region.word }) v) st)
      by_values r v written single =
          let touch = single_written types f rest inputs S st k sigs n place S' s to from free right solid_to solid_from alike r v written single in
          behind_content types f inputs (CopiedBare types f rest inputs S st k to s to) no_local no_location st (replaced (operand_parts types f to) (record { object = r.region.object; index = r.index; word = r.region.word }) v) (copy_buffered r v written)
          (nothing_spares types f rest inputs S st k (replaced (operand_parts types f to) (record { object = r.region.object; index = r.index; word = r.region.word }) v) touch)
          (λ x j e unique. inr (had_nothing types f rest inputs S st k (replaced (operand_parts types f to) (record { object = r.region.object; index = r.index; word = r.region.word }) v) touch x j e unique))

-- ---- a local comes to life

blank_object : Blank ≡ AnObject → ⊥
blank_object e = cc

pointer_object : APointer ≡ AnObject → ⊥
pointer_object e = cc

view_object : AView ≡ AnObject → ⊥
view_object e = cc

-- an object of its own is a value's
object_single : (types : Types) (o : Option Ty) (kind : LocalKind) → held_if (class o) kind o ≡ AnObject → parts_of types (parts_at types) o ≡ Single
object_single types None kind e = refl
object_single types (Some ty.Void) kind e = refl
object_single types (Some ty.Bool) kind e = refl
object_single types (Some ty.Char) kind e = refl
object_single types (Some ty.Int) kind e = refl
object_single types (Some ty.Long) kind e = refl
object_single types (Some ty.Size) kind e = refl
object_single types (Some ty.Text) kind e = absurd (blank_object e)
object_single types (Some ty.View) kind e = absurd (view_object e)
object_single types (Some (ty.Vector element)) kind e = absurd (blank_object e)
object_single types (Some (ty.Unique target)) kind e = absurd (blank_object e)
object_single types (Some (ty.Struct number)) kind e = absurd (blank_object e)
object_single types (Some (ty.Raw target constant)) kind e = absurd (pointer_object e)
object_single types (Some (ty.Reference target constant)) kind e = absurd (pointer_object e)
object_single types (Some (ty.Iterator target constant)) kind e = absurd (blank_object e)
object_single types (Some (ty.Span target constant)) kind e = absurd (blank_object e)

pub object_parts : (types : Types) (ordered : IsOrdered types) (f : Function) (x : ℕ) (l : Local) → slice_get f.locals x ≡ Some l → sort_of types f x ≡ AnObject → parts_at types l.ty ≡ Single
object_parts types ordered f x l there object = parts_made types ordered l.ty ∙ object_single types (slice_get types.types l.ty.0) l.kind (sym (ap (held_by types) there) ∙ object)

module _ (types : Types) (f : Function) (rest : ℕ → ℕ) (inputs : Root → Option Region) (S : Fact → Type 0) (st : State) (k : IsKnownFrame types f rest inputs S st) (s : Setting) (x : ℕ) (form : Form) where
  module _ (empty : (n : ℕ) → slice_get st.cells x ≡ Some (Named n) → ⊥) where
    -- where only a new object came
    new_behind : (m : ℕ) (d : Content) → st.world.content.births ≤ m → AreBut types (MayLack types f inputs S st) d → Touches (kinds_of types) no_foot st.world.content d → IsBehind types f inputs (MayLack types f inputs S st) no_local (λ (l : Location). x ≡ l.local) st (put_cell x (Named m) (put_content d st))
    new_behind m d new buffered touch = behind_cell types f inputs (MayLack types f inputs S st) no_local (λ (l : Location). x ≡ l.local) st x empty (Named m) d (λ n e. (subst (λ j. st.world.content.births ≤ j) (same e) new, λ l here unique. here)) buffered (nothing_spares types f rest inputs S st k d touch)
        (λ y n ne e unique. inr (had_nothing types f rest inputs S st k d touch y n e unique))
      where
        same : {i j : ℕ} → Named i ≡ Named j → i ≡ j
        same e = cc

    owner_born : (ty : TyId) → OnNext (born_owner s ty (parts_at types ty) form x st) (IsBehind types f inputs (MayLack types f inputs S st) no_local (λ (l : Location). x ≡ l.local) st)
    owner_born ty =
        on_got_next (object_with s ty (parts_at types ty) (fresh s form (parts_at types ty)) st.world.content) (λ b. Next (put_cell x (Named b.0) (put_content b.1 st))) (λ b. AreBut types (MayLack types f inputs S st) b.1 × IsNew types st.world.content b) (IsBehind types f inputs (MayLack types f inputs S st) no_local (λ (l : Location). x ≡ l.local) st)
        (both_got (object_with s ty (parts_at types ty) (fresh s form (parts_at types ty)) st.world.content) (λ b. AreBut types (MayLack types f inputs S st) b.1) (IsNew types st.world.content)
        (born_buffered types k.ordered s (MayLack types f inputs S st) form ty st.world.content k.buffered) (owner_new types k.ordered (hand_of rest st) st.world.content (store_of types f rest inputs S st k) ty s form))
        (λ b h. new_behind b.0 b.1 h.1.0 h.0 h.1.1)

    value_born : (ty : TyId) → parts_at types ty ≡ Single → OnNext (born_object s ty x st) (IsBehind types f inputs (MayLack types f inputs S st) no_local (λ (l : Location). x ≡ l.local) st)
    value_born ty single = if_room (nat_lt s.given.cells (live_words_of st.world.content + (2 + 1 * 1)))
      where
        if_room : (b : Bool) → OnNext (cond b (Traps trap.Cells) (Next (put_cell x (Named st.world.content.births) (put_content (with_value_object ty st.world.content) st)))) (IsBehind types f inputs (MayLack types f inputs S st) no_local (λ (l : Location). x ≡ l.local) st)
        if_room true = tt
        if_room false =
            new_behind st.world.content.births (with_value_object ty st.world.content) (omega arith)
            (set_but types (MayLack types f inputs S st) st.world.content.births (resized (st.world.content.clock + 1) 1 0 (newborn ty 1 1 st.world.content.clock)) (with_birth ty 1 1 st.world.content) (with_value_object ty st.world.content)
            (inr (single_have types (resized (st.world.content.clock + 1) 1 0 (newborn ty 1 1 st.world.content.clock)) single)) refl (birth_but types (MayLack types f inputs S st) ty 1 1 st.world.content k.buffered))
            (value_touches types k.ordered (hand_of rest st) st.world.content (store_of types f rest inputs S st k) ty)

    of_parts : (ty : TyId) (p : Parts) → parts_at types ty ≡ p → OnNext (live_of s ty p form x st) (IsBehind types f inputs (MayLack types f inputs S st) no_local (λ (l : Location). x ≡ l.local) st)
    of_parts ty Single e = tt
    of_parts ty Raw e = tt
    of_parts ty Iterates e = behind_pointer types f inputs (MayLack types f inputs S st) no_local (λ (l : Location). x ≡ l.local) st k.buffered x empty Wild
    of_parts ty Views e = behind_pointer types f inputs (MayLack types f inputs S st) no_local (λ (l : Location). x ≡ l.local) st k.buffered x empty empty_view
    of_parts ty (Text id) e = subst (λ (p : Parts). OnNext (born_owner s ty p form x st) (IsBehind types f inputs (MayLack types f inputs S st) no_local (λ (l : Location). x ≡ l.local) st)) e (owner_born ty)
    of_parts ty (Vector id element) e = subst (λ (p : Parts). OnNext (born_owner s ty p form x st) (IsBehind types f inputs (MayLack types f inputs S st) no_local (λ (l : Location). x ≡ l.local) st)) e (owner_born ty)
    of_parts ty (Unique id target) e = subst (λ (p : Parts). OnNext (born_owner s ty p form x st) (IsBehind types f inputs (MayLack types f inputs S st) no_local (λ (l : Location). x ≡ l.local) st)) e (owner_born ty)
    of_parts ty (Member first others) e = subst (λ (p : Parts). OnNext (born_owner s ty p form x st) (IsBehind types f inputs (MayLack types f inputs S st) no_local (λ (l : Location). x ≡ l.local) st)) e (owner_born ty)
    of_parts ty NoMember e = tt

    as_held : (h : Holding) (ty : TyId) → (h ≡ AnObject → parts_at types ty ≡ Single) → OnNext (live_as s types h ty form x st) (IsBehind types f inputs (MayLack types f inputs S st) no_local (λ (l : Location). x ≡ l.local) st)
    as_held Blank ty single = of_parts ty (parts_at types ty) refl
    as_held AnObject ty single = value_born ty (single refl)
    as_held ANumber ty single = tt
    as_held APointer ty single = behind_pointer types f inputs (MayLack types f inputs S st) no_local (λ (l : Location). x ≡ l.local) st k.buffered x empty (born_pointer form)
    as_held AView ty single = behind_pointer types f inputs (MayLack types f inputs S st) no_local (λ (l : Location). x ≡ l.local) st k.buffered x empty empty_view

  over_cell : (v : Option Cell) → slice_get st.cells x ≡ v → (h : Holding) (ty : TyId) → (h ≡ AnObject → parts_at types ty ≡ Single) → OnNext (live_over s types v h ty form x st) (IsBehind types f inputs (ReplacedBare types f rest inputs S st x) no_local (λ (l : Location). x ≡ l.local) st)
  over_cell None e h ty single = tt
  over_cell (Some Empty) e h ty single = next_more (live_as s types h ty form x st) (IsBehind types f inputs (MayLack types f inputs S st) no_local (λ (l : Location). x ≡ l.local) st) (IsBehind types f inputs (ReplacedBare types f rest inputs S st x) no_local (λ (l : Location). x ≡ l.local) st)
      (as_held (λ n named. unlike n (some_same (sym e ∙ named))) h ty single)
      (λ after. behind_more types f inputs (MayLack types f inputs S st) no_local (λ (l : Location). x ≡ l.local) (ReplacedBare types f rest inputs S st x) no_local (λ (l : Location). x ≡ l.local) st after (λ n b. (b, λ named. unlike n (some_same (sym e ∙ named)))) (λ y none. none) (λ y same. same))
    where
      unlike : (n : ℕ) → Empty ≡ Named n → ⊥
      unlike n is = cc
  over_cell (Some (Named n)) e h ty single = tt
  over_cell (Some (Number z)) e h ty single = tt
  over_cell (Some (Points p)) e h ty single = tt

  pub live_behind : OnNext (does s types f (Live x form) st) (IsBehind types f inputs (ReplacedBare types f rest inputs S st x) no_local (λ (l : Location). x ≡ l.local) st)
  live_behind = by_local (slice_get f.locals x) refl
    where
      by_local : (o : Option Local) → slice_get f.locals x ≡ o → OnNext (live_local s types f (slice_get f.locals x) form x st) (IsBehind types f inputs (ReplacedBare types f rest inputs S st x) no_local (λ (l : Location). x ≡ l.local) st)
      by_local None e = subst (λ (o : Option Local). OnNext (live_local s types f o form x st) (IsBehind types f inputs (ReplacedBare types f rest inputs S st x) no_local (λ (l : Location). x ≡ l.local) st)) (sym e) tt
      by_local (Some l) e =
          subst (λ (o : Option Local). OnNext (live_local s types f o form x st) (IsBehind types f inputs (ReplacedBare types f rest inputs S st x) no_local (λ (l : Location). x ≡ l.local) st)) (sym e)
          (over_cell (cell st x) refl (sort_of types f x) l.ty (object_parts types k.ordered f x l e))
