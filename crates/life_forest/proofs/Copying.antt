-- Values are copied: fresh buffers, which own new objects alone.
use Rattle.std.proofs.Common.{◌≡◌, ℕ, suc, ◌+◌, ◌≤◌, ◌<◌, Bool, List, [], ◌∷◌, length, Option, Some, None, refl, sym, ap, subst, ◌∙◌, arith}
use Rattle.std.specs.Prelude.{◌&&◌, drop, slice_index, take}
use Rattle.life_types.specs.declared.ty.TyId.{TyId}
use Rattle.life_store.specs.Cells.{at, at-set_same, at-set_other}
use Rattle.life_store.specs.Content.{Slot, Object, Content, newborn, resized, with_birth, with_resize}
use Rattle.life_store.specs.Effects.{Setting, Attempt, Got, then_get}
use Rattle.life_store.specs.Held.{filled, owned_in, resized_at, resized_if, slots_if}
use Rattle.life_store.specs.Owners.{Words, birth, copied, copied_buffer, copied_slots, owning, sized_birth}
use Rattle.life_store.specs.Parts.{Parts, Single, Raw, Iterates, Views, Text, Vector, Unique, Member, NoMember, width}
use Rattle.life_store.proofs.MapLemmas.{one_or_apart}
use Rattle.life_forest.specs.Kinds.{Kinds}
use Rattle.life_store.specs.Kinds.{is_owner, kind_in}
use Rattle.life_forest.specs.Owned.{every, in_slots, times, alive, owns, owns_if, owns_at}
use Rattle.life_forest.specs.Forest.{IsForest}
use Rattle.life_forest.specs.Values.{listed, owned_of, owned_rows, owned_slots, AllKnown, AllWide, IsLaid, Known, Laid, OwnedKnown}
use Rattle.life_forest.proofs.Below.{lives}
use Rattle.life_forest.proofs.ByParts.{owned_is}
use Rattle.life_forest.proofs.Coming.{Came, CameWords, IfGot, below_or, birth_came, came_none, came_then, got_then, if_room, joined_came}
use Rattle.life_forest.proofs.Counting.{one_same, one_there, times-append}
use Rattle.life_forest.proofs.Filling.{filled_births, filled_clock, filled_forest, filled_other, filled_owns, filled_there, full}
use Rattle.life_forest.proofs.Knowing.{Stays, known_kept, slots_known_kept}
use Rattle.life_forest.proofs.Lists.{length_front, length_back}
use Rattle.life_forest.proofs.Resizing.{in_slots-resized, in_slots-take, resize_forest}
use Rattle.life_forest.proofs.Steps.{owned_held, times-owned_list}
use Rattle.life_forest.proofs.Widths.{count-blank, wide-resized}

some_same : {x y : Object} → Some x ≡ Some y → x ≡ y
some_same e = cc

module _ (kind : Kinds) where
  -- ---- an object is born with its slots, which own nothing

  pub record Sized (bound : ℕ) (hand : ℕ → ℕ) (ty : TyId) (w size : ℕ) (c : Content) (b : ℕ × Content) : Type 0 where
    pub number : b.0 ≡ c.births
    pub came : Came kind bound hand (b.0 ∷ []) c b.1
    pub object : Object
    pub there : at b.1.objects b.0 ≡ Some object
    pub type : object.ty ≡ ty
    pub blank : (f : ℕ → Bool) (k : ℕ) → in_slots f object.slots k ≡ 0
    pub wide : AllWide w object.slots
    pub count : length object.slots ≡ size

  module _ (bound : ℕ) (hand : ℕ → ℕ) (ty : TyId) (w capacity size : ℕ) (c : Content) (lt : kind.rank ty < bound) (forest : IsForest kind hand c) where
    abbrev begun : Content
    begun = with_birth ty w capacity c

    abbrev bare : Object
    bare = newborn ty w capacity c.clock

    begun_came : Came kind bound hand (c.births ∷ []) c begun
    begun_came = birth_came kind bound ty w capacity hand c lt forest

    bare_there : at begun.objects c.births ≡ Some bare
    bare_there = at-set_same c.objects c.births c.births bare refl

    abbrev blanks : Object
    blanks = resized (begun.clock + 1) size 0 bare

    abbrev sized : Content
    sized = with_resize c.births size 0 bare begun

    none_in : (f : ℕ → Bool) (k : ℕ) → in_slots f blanks.slots k ≡ 0
    none_in f k = let a = in_slots-resized f w (begun.clock + 1) size 0 [] k (omega arith) in let b = in_slots-take f size [] k in omega arith

    sized_came : Came kind bound hand (c.births ∷ []) c sized
    sized_came = record {
      births = omega arith;
      clock = omega arith;
      same = λ k below. at-set_other begun.objects c.births k blanks (λ e. absurd (omega (arith, e, below))) ∙ begun_came.same k below;
      own = λ m k le own. one_or_apart c.births m
          (λ e. let z : 0 < owns kind every blanks k = subst (λ (o : Option Object). 0 < owns_if kind every o k) (at-set_same begun.objects c.births m blanks e) own in
          let n = none_in (λ u. is_owner (kind.word ty u) && every u) k in
          absurd (omega arith))
          (λ ne. begun_came.own m k le (subst (λ (o : Option Object). 0 < owns_if kind every o k) (at-set_other begun.objects c.births m blanks ne) own));
      fresh = begun_came.fresh;
      low = λ m q there is.
          let e = one_there c.births m (omega arith) in
          let r = ap kind.rank (ap (λ (x : Object). x.ty) (some_same (sym (at-set_same begun.objects c.births m blanks e) ∙ is))) in
          omega arith;
      forest = resize_forest kind (λ k. times (c.births ∷ []) k + hand k) begun c.births size 0 bare begun_came.forest bare_there (omega arith);
    }

    is_sized : resized_at c.births size 0 begun ≡ sized
    is_sized = ap (λ (x : Option Object). resized_if x c.births size 0 begun) bare_there

    pub sized_is : Sized bound hand ty w size c (c.births, resized_at c.births size 0 begun)
    sized_is =
        subst (λ (d : Content). Sized bound hand ty w size c (c.births, d)) (sym is_sized)
        (record { number = refl; came = sized_came; object = blanks; there = at-set_same begun.objects c.births c.births blanks refl; type = refl; blank = none_in; wide = wide-resized w (begun.clock + 1) size 0 [] tt; count = count-blank w (begun.clock + 1) size })

  pub sized_birth_came : (bound : ℕ) (hand : ℕ → ℕ) (ty : TyId) (w size : ℕ) (c : Content) → kind.rank ty < bound → IsForest kind hand c → (s : Setting) → IfGot (sized_birth s ty w size c) (Sized bound hand ty w size c)
  sized_birth_came bound hand ty w size c lt forest s =
      got_then (birth s ty w size c) (λ b. Got (b.0, resized_at b.0 size 0 b.1)) (λ b. Sized bound hand ty w size c (b.0, resized_at b.0 size 0 b.1)) (Sized bound hand ty w size c)
      (if_room _ _ (c.births, with_birth ty w size c) (λ b. Sized bound hand ty w size c (b.0, resized_at b.0 size 0 b.1)) (sized_is bound hand ty w size size c lt forest))
      (λ b h. h)

  -- ---- what is copied is known, and lives

  abbrev pub AllReady : Content → Parts → List Slot → Type 0
  AllReady c p ss = AllKnown (Known kind c p) ss × ((k : ℕ) → 0 < times (owned_slots p ss) k → 0 < alive c k)

  module _ (c d : Content) (hand : ℕ → ℕ) (forest : IsForest kind hand c) (births : c.births ≤ d.births) (same : (k : ℕ) → k < c.births → at d.objects k ≡ at c.objects k) where
    stays : (m : ℕ) (x : Object) → at c.objects m ≡ Some x → Unit {0} → at d.objects m ≡ Some x
    stays m x there u = same m (forest.births m x there) ∙ there

    pub alive_then : (k : ℕ) → 0 < alive c k → 0 < alive d k
    alive_then k lt = let q = lives kind c k lt in let e = ap alive_of (same k (forest.births k q.0 q.1)) in omega arith
      where
        alive_of : Option Object → ℕ
        alive_of None = 0
        alive_of (Some x) = 1

    living_there : (k : ℕ) → 0 < alive c k → Stays kind hand c d forest (λ x. Unit {0}) (λ m j x y t u o b. tt) births stays k
    living_there k lt = let q = lives kind c k lt in record { object = q.0; there = q.1; such = tt }

    pub slots_ready : (p : Parts) (ss : List Slot) → AllReady c p ss → AllReady d p ss
    slots_ready p ss h = (
      slots_known_kept kind hand c d forest (λ x. Unit {0}) (λ m j x y t u o b. tt) births stays p ss (λ m lt. living_there m (h.1 m lt)) h.0,
      λ k lt. alive_then k (h.1 k lt),
    )

    pub words_ready : (p : Parts) (ws : List ℕ) → Known kind c p ws × ((k : ℕ) → 0 < times (owned_of p ws) k → 0 < alive c k) → Known kind d p ws × ((k : ℕ) → 0 < times (owned_of p ws) k → 0 < alive d k)
    words_ready p ws h = (
      known_kept kind hand c d forest (λ x. Unit {0}) (λ m j x y t u o b. tt) births stays p ws (λ m lt. living_there m (h.1 m lt)) h.0,
      λ k lt. alive_then k (h.1 k lt),
    )

  -- ---- one lemma for each way to go on

  abbrev Copies : Setting → Parts → Type 0
  Copies s p =
      (bound : ℕ) → Laid kind bound p → (ws : List ℕ) → length ws ≡ width p → (hand : ℕ → ℕ) (c : Content) → IsForest kind hand c → Known kind c p ws → ((k : ℕ) → 0 < times (owned_of p ws) k → 0 < alive c k)
      → IfGot (copied s p ws c) (CameWords kind bound hand p c)

  abbrev pub CameRows : ℕ → (ℕ → ℕ) → Parts → Content → List (List ℕ) × Content → Type 0
  CameRows bound hand p c vs = Came kind bound hand (owned_rows p vs.0) c vs.1

  pub slots_copy : (s : Setting) (p : Parts) (copy : List ℕ → Content → Attempt Words) (bound : ℕ)
      → ((ws : List ℕ) → length ws ≡ width p → (hand : ℕ → ℕ) (c : Content) → IsForest kind hand c → Known kind c p ws → ((k : ℕ) → 0 < times (owned_of p ws) k → 0 < alive c k) → IfGot (copy ws c) (CameWords kind bound hand p c))
      → (ss : List Slot) → AllWide (width p) ss → (hand : ℕ → ℕ) (c : Content) → IsForest kind hand c → AllReady c p ss → IfGot (copied_slots copy ss c) (CameRows bound hand p c)
  slots_copy s p copy bound each [] wide hand c forest ready = came_none kind bound hand c forest
  slots_copy s p copy bound each (x ∷ xs) wide hand c forest ready =
      got_then (copy x.words c) (λ v. then_get (copied_slots copy xs v.1) (λ vs. Got (v.0 ∷ vs.0, vs.1))) (CameWords kind bound hand p c) (CameRows bound hand p c)
      (each x.words wide.0 hand c forest ready.0.0 (λ k lt. let a = times-append (owned_of p x.words) (owned_slots p xs) k in ready.1 k (omega arith)))
      (λ v a. got_then (copied_slots copy xs v.1) (λ vs. Got (v.0 ∷ vs.0, vs.1)) (CameRows bound (λ k. times (owned_of p v.0) k + hand k) p v.1) (CameRows bound hand p c)
      (slots_copy s p copy bound each xs wide.1 (λ k. times (owned_of p v.0) k + hand k) v.1 a.0.forest
      (slots_ready c v.1 hand forest a.0.births a.0.same p xs (ready.0.1, λ k lt. let e = times-append (owned_of p x.words) (owned_slots p xs) k in ready.1 k (omega arith))))
      (λ vs b. came_then kind bound hand (owned_of p v.0) (owned_rows p vs.0) c v.1 vs.1 a.0 b))

  -- a fresh buffer with a copy of each slot
  abbrev pub copied_into : Setting → TyId → ℕ → (List ℕ → Content → Attempt Words) → List Slot → Content → Attempt Words
  copied_into s ty w copy ss c = then_get (sized_birth s ty w (length ss) c) (λ b. then_get (copied_slots copy ss b.1) (λ vs. Got (owning (b.0, filled b.0 vs.0 vs.1))))

  -- the copies are there, and the buffer is filled with them
  module _ (bound : ℕ) (hand : ℕ → ℕ) (ty : TyId) (w size : ℕ) (p : Parts) (c : Content) (lt : kind.rank ty < bound) (laid : IsLaid kind ty p) (b : ℕ × Content) (sized : Sized bound hand ty w size c b) (vs : List (List ℕ) × Content)
      (inner : CameRows (kind.rank ty) (λ k. times (b.0 ∷ []) k + hand k) p b.1 vs) where
    number_born : b.0 < b.1.births
    number_born = sized.came.forest.births b.0 sized.object sized.there

    there_then : at vs.1.objects b.0 ≡ Some sized.object
    there_then = inner.same b.0 number_born ∙ sized.there

    abbrev new : Object
    new = full vs.1 b.0 sized.object vs.0 there_then

    kinds : (u : ℕ) → kind.word sized.object.ty u ≡ kind_in p u
    kinds u = ap (λ t. kind.word t u) sized.type ∙ laid u

    new_owns : (k : ℕ) → owns kind every (full vs.1 b.0 sized.object vs.0 there_then) k ≤ times (owned_rows p vs.0) k
    new_owns k = filled_owns vs.1 b.0 sized.object vs.0 there_then kind p kinds sized.blank k

    rank_is : kind.rank sized.object.ty ≡ kind.rank ty
    rank_is = ap kind.rank sized.type

    pub filled_came : Came kind bound hand (b.0 ∷ []) c (filled b.0 vs.0 vs.1)
    filled_came = record {
      births = let e = filled_births vs.1 b.0 sized.object vs.0 there_then in let x = sized.came.births in let y = inner.births in omega arith;
      clock = let e = filled_clock vs.1 b.0 sized.object vs.0 there_then in let x = sized.came.clock in let y = inner.clock in omega arith;
      same = λ k below. let x = sized.came.births in let n = sized.number in
          filled_other vs.1 b.0 sized.object vs.0 there_then k (λ e. absurd (omega (arith, e, n, below)))
          ∙ inner.same k (omega arith)
          ∙ sized.came.same k below;
      own = λ m k le own. one_or_apart b.0 m
          (λ e. let w : 0 < owns kind every new k = subst (λ (o : Option Object). 0 < owns_if kind every o k) (ap (at (filled b.0 vs.0 vs.1).objects) (sym e) ∙ filled_there vs.1 b.0 sized.object vs.0 there_then) own in
          let l = new_owns k in
          let f = inner.fresh k (omega arith) in
          let x = sized.came.births in
          omega arith)
          (λ ne. let w : 0 < owns_at kind vs.1 every m k = subst (λ (o : Option Object). 0 < owns_if kind every o k) (filled_other vs.1 b.0 sized.object vs.0 there_then m ne) own in
          below_or m b.1.births
          (λ was. sized.came.own m k le (subst (λ (o : Option Object). 0 < owns_if kind every o k) (inner.same m was) w))
          (λ over. let f = inner.own m k over w in let x = sized.came.births in omega arith));
      fresh = sized.came.fresh;
      low = λ m q there is.
          let e = one_there b.0 m (omega arith) in
          let r = ap kind.rank (ap (λ (x : Object). x.ty) (some_same (sym (ap (at (filled b.0 vs.0 vs.1).objects) (sym e) ∙ filled_there vs.1 b.0 sized.object vs.0 there_then) ∙ is))) in
          let s = rank_is in
          omega arith;
      forest =
          filled_forest vs.1 b.0 sized.object vs.0 there_then kind p kinds sized.blank (λ k. times (b.0 ∷ []) k + hand k) inner.forest
          (λ m q there is. let l = inner.low m q there is in let s = rank_is in omega arith);
    }

  module _ (s : Setting) (q p : Parts) (bound : ℕ) (ty : TyId) (w : ℕ) (copy : List ℕ → Content → Attempt Words) (owner : (n : ℕ) → owned_of q (suc n ∷ []) ≡ n ∷ []) (wide : width q ≡ 1) (lt : kind.rank ty < bound) (laid : IsLaid kind ty p)
      (each : (ws : List ℕ) → length ws ≡ width p → (hand : ℕ → ℕ) (c : Content) → IsForest kind hand c → Known kind c p ws → ((k : ℕ) → 0 < times (owned_of p ws) k → 0 < alive c k) → IfGot (copy ws c) (CameWords kind (kind.rank ty) hand p c)) where
    into_came : (ss : List Slot) → AllWide (width p) ss → (hand : ℕ → ℕ) (c : Content) → IsForest kind hand c → AllReady c p ss → IfGot (copied_into s ty w copy ss c) (CameWords kind bound hand q c)
    into_came ss slots hand c forest ready =
        got_then (sized_birth s ty w (length ss) c) (λ b. then_get (copied_slots copy ss b.1) (λ vs. Got (owning (b.0, filled b.0 vs.0 vs.1)))) (Sized bound hand ty w (length ss) c) (CameWords kind bound hand q c)
        (sized_birth_came bound hand ty w (length ss) c lt forest s)
        (λ b sized. got_then (copied_slots copy ss b.1) (λ vs. Got (owning (b.0, filled b.0 vs.0 vs.1))) (CameRows (kind.rank ty) (λ k. times (b.0 ∷ []) k + hand k) p b.1) (CameWords kind bound hand q c)
        (slots_copy s p copy (kind.rank ty) each ss slots (λ k. times (b.0 ∷ []) k + hand k) b.1 sized.came.forest (slots_ready c b.1 hand forest sized.came.births sized.came.same p ss ready))
        (λ vs inner. (
          subst (λ ms. Came kind bound hand ms c (filled b.0 vs.0 vs.1)) (sym (owner b.0)) (filled_came bound hand ty w (length ss) p c lt laid b sized vs inner),
          sym wide,
        )))

    pub buffer_copied : (x : Option ℕ) (hand : ℕ → ℕ) (c : Content) → IsForest kind hand c → OwnedKnown kind c p (Known kind c p) x → ((k : ℕ) → 0 < times (listed x) k → 0 < alive c k)
        → IfGot (copied_buffer s ty w copy x c) (CameWords kind bound hand q c)
    buffer_copied None hand c forest known living = tt
    buffer_copied (Some n) hand c forest known living =
        let one = one_same n n refl in
        let x = lives kind c n (living n (omega arith)) in
        let is = known.1 x.0 x.1 in
        subst (λ (ss : List Slot). IfGot (copied_into s ty w copy ss c) (CameWords kind bound hand q c)) (sym (ap slots_if x.1))
        (into_came x.0.slots is.wide hand c forest (
          is.slots,
          λ k lt. let e = times-owned_list kind (Some x.0) k in
              let f = ap (λ xs. times xs k) (owned_is kind p x.0 is.kinds) in
              let l = owned_held kind c n k x.0 x.1 in
              let h = forest.held k in
              omega arith,
        ))

  pub copied_came : (s : Setting) (p : Parts) → Copies s p
  copied_came s Single bound laid ws wide hand c forest known living = (came_none kind bound hand c forest, wide)
  copied_came s Raw bound laid ws wide hand c forest known living = (came_none kind bound hand c forest, wide)
  copied_came s Iterates bound laid ws wide hand c forest known living = (came_none kind bound hand c forest, wide)
  copied_came s Views bound laid ws wide hand c forest known living = (came_none kind bound hand c forest, wide)
  copied_came s (Text ty) bound laid ws wide hand c forest known living =
      buffer_copied s (Text ty) Single bound ty 1 (λ vs d. Got (vs, d)) (λ n. refl) refl laid.0 laid.1 (λ vs w h d f k l. (came_none kind (kind.rank ty) h d f, w)) (owned_in (slice_index ws 0)) hand c forest known living
  copied_came s (Vector ty element) bound laid ws wide hand c forest known living =
      buffer_copied s (Vector ty element) element bound ty (width element) (copied s element) (λ n. refl) refl laid.0 laid.1 (copied_came s element (kind.rank ty) laid.2) (owned_in (slice_index ws 0)) hand c forest known living
  copied_came s (Unique ty target) bound laid ws wide hand c forest known living = tt
  copied_came s (Member first others) bound laid ws wide hand c forest known living =
      joined_came kind bound hand first others c (copied s first (take (width first) ws) c) (copied s others (drop (width first) ws))
      (copied_came s first bound laid.0 (take (width first) ws) (length_front (width first) (width others) ws wide) hand c forest known.0
      (λ k lt. let e = times-append (owned_of first (take (width first) ws)) (owned_of others (drop (width first) ws)) k in living k (omega arith)))
      (λ h v now came.
      let r = words_ready c v.1 hand forest came.0.births came.0.same others (drop (width first) ws) (
        known.1,
        λ k lt. let e = times-append (owned_of first (take (width first) ws)) (owned_of others (drop (width first) ws)) k in living k (omega arith),
      ) in
      copied_came s others bound laid.1 (drop (width first) ws) (length_back (width first) (width others) ws wide) h v.1 now r.0 r.1)
  copied_came s NoMember bound laid ws wide hand c forest known living = (came_none kind bound hand c forest, refl)
