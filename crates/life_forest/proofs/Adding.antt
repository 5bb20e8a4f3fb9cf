-- push_back, of a number or of an object that gives its value over.
use Rattle.std.proofs.Common.{◌≡◌, ◌≢◌, ℕ, ◌+◌, ◌<◌, List, [], ◌∷◌, length, Option, Some, refl, sym, ap, subst, ◌∙◌, arith}
use Rattle.std.specs.Prelude.{nat_eq, slice_get}
use Rattle.life_types.specs.declared.ty.TyId.{TyId}
use Rattle.life_store.specs.Cells.{at, at-set_same, at-set_other}
use Rattle.life_store.specs.Content.{Slot, Object, Content, with_object}
use Rattle.life_store.specs.Edits.{owns as takes, put_last, pushed, size_of, with_room}
use Rattle.life_store.specs.Effects.{Setting, Got}
use Rattle.life_store.specs.Held.{owner_word, slot_words, slots_if, words_if, wrote}
use Rattle.life_store.specs.Owners.{Words, consumed}
use Rattle.life_store.specs.Parts.{Parts, Vector, width}
use Rattle.life_store.specs.Places.{Spot, wrote_spot}
use Rattle.life_store.proofs.MapLemmas.{one_or_apart}
use Rattle.life_forest.specs.Kinds.{Kinds}
use Rattle.life_store.specs.Kinds.{kind_in}
use Rattle.life_forest.specs.Owned.{every, times, owns, owns_if}
use Rattle.life_forest.specs.Forest.{IsForest, Foot, Beneath, whole, under, Touches}
use Rattle.life_forest.specs.Values.{IsNamed, owned_of}
use Rattle.life_forest.proofs.Apart.{one_owner}
use Rattle.life_forest.proofs.Below.{is_positive}
use Rattle.life_forest.proofs.Beside.{Alike, Beside, same_content}
use Rattle.life_forest.proofs.Coming.{IfGot, got_then}
use Rattle.life_forest.proofs.Consuming.{consumed_beside, consumed_forest, consumed_lower, consumed_old, consumed_others, consumed_stays, consumed_touches, consumed_wide, tell_apart, told_apart, value_owned}
use Rattle.life_forest.proofs.Counting.{one_same, one_there}
use Rattle.life_forest.proofs.Feet.{and_all, within_self, within_all}
use Rattle.life_forest.proofs.Growing.{OwnsBuffer, buffer_beneath, holder_owns}
use Rattle.life_forest.proofs.Lying.{LiesAt, Covers, forest_value, lies_in, touches_beneath, value_held}
use Rattle.life_forest.proofs.Puts.{AreWords, puts_in, wrote_is}
use Rattle.life_forest.proofs.Pushing.{HasRoom, room_fit, room_there}
use Rattle.life_forest.proofs.Steps.{alive_le, owned_held, touches_then}
use Rattle.life_forest.specs.Typed.{AreFit}
use Rattle.life_forest.proofs.Fitting.{OwnsAlike, fit_wrote, owned_word}
use Rattle.life_forest.proofs.FittingBirths.{got_both}
use Rattle.life_forest.proofs.FittingTaken.{consumed_fit}

-- the slot behind the last
abbrev pub slot_behind : ℕ → Object → Spot
slot_behind f ob = record { object = f; index = length ob.slots; word = 0 }

module _ (kind : Kinds) (ty : TyId) (element : Parts) (spot : Spot) (b : ℕ) (hand : ℕ → ℕ) (c : Content) (o ob : Object) (forest : IsForest kind hand c) (own : OwnsBuffer kind ty element spot b c o ob) where
  -- what holds of each way to have room holds of what is pushed
  pub pushed_got : (s : Setting) (value : Content → Words) (P : Content → Type 0) → ((f : ℕ × Content) → HasRoom kind ty element spot b hand c o ob forest own f → P (put_last spot f.0 (length ob.slots) (value f.1)))
      → IfGot (pushed s ty element spot b value c) P
  pushed_got s value P each =
      got_then (with_room s ty element b c) (λ f. Got (put_last spot f.0 (size_of c b) (value f.1))) (HasRoom kind ty element spot b hand c o ob forest own) P
      (room_there kind ty element spot b hand c o ob forest own s)
      (λ f room. subst (λ n. P (put_last spot f.0 n (value f.1))) (sym (ap (λ (x : Option Object). length (slots_if x)) own.there)) (each f room))

  pub pushed_fitting : (s : Setting) (value : Content → Words) → AreFit kind c → IsNamed kind ty element → OwnsAlike kind o spot (Vector ty element)
      → ((f : ℕ × Content) → HasRoom kind ty element spot b hand c o ob forest own f → AreFit kind (takes spot f.0 f.1) → AreFit kind (put_last spot f.0 (length ob.slots) (value f.1))) → IfGot (pushed s ty element spot b value c) (AreFit kind)
  pushed_fitting s value fit named alike each =
      got_then (with_room s ty element b c) (λ f. Got (put_last spot f.0 (size_of c b) (value f.1))) (λ f. HasRoom kind ty element spot b hand c o ob forest own f × AreFit kind (takes spot f.0 f.1)) (AreFit kind)
      (got_both (with_room s ty element b c) (HasRoom kind ty element spot b hand c o ob forest own) (λ f. AreFit kind (takes spot f.0 f.1))
      (room_there kind ty element spot b hand c o ob forest own s) (room_fit kind ty element spot b hand c o ob forest own s fit named alike))
      (λ f h. subst (λ n. AreFit kind (put_last spot f.0 n (value f.1))) (sym (ap (λ (x : Option Object). length (slots_if x)) own.there)) (each f h.0 h.1))

  -- the words of the slot own what the elements' parts name
  pub alike_behind : IsNamed kind ty element → (f : ℕ) (x : Object) → x.ty ≡ ty → OwnsAlike kind x (slot_behind f ob) element
  alike_behind named f x type u lt = ap (kind.owned x.ty) (nothing u) ∙ ap (λ t. kind.owned t u) type ∙ named.1 u
    where
      nothing : (v : ℕ) → 0 + v ≡ v
      nothing v = omega arith

  pub lies_behind : (d : Content) (f : ℕ) (x : Object) → at d.objects f ≡ Some x → x.ty ≡ ty → AreWords (length ob.slots) 0 (width element) x.slots → LiesAt kind d (slot_behind f ob) element x
  lies_behind d f x there type words = record {
    there = there;
    words = words;
    kinds = λ u lt. ap (kind.word x.ty) (nothing u) ∙ ap (λ t. kind.word t u) type ∙ own.laid u;
  }
    where
      nothing : (u : ℕ) → 0 + u ≡ u
      nothing u = omega arith

  -- ---- a value that owns nothing

  module _ (ws : List ℕ) (wide : length ws ≡ width element) (none : (k : ℕ) → times (owned_of element ws) k ≡ 0) where
    pub pushed_number_forest : (s : Setting) → IfGot (pushed s ty element spot b (λ d. (ws, d)) c) (IsForest kind hand)
    pushed_number_forest s =
        pushed_got s (λ d. (ws, d)) (IsForest kind hand)
        (λ f room. forest_value kind (takes spot f.0 f.1) (slot_behind f.0 ob) element room.object (lies_behind (takes spot f.0 f.1) f.0 room.object room.there room.type room.words) ws wide hand hand room.is_forest
        (λ m q lt there. let z = none m in absurd (omega arith))
        (λ k. let z = none k in omega arith))

    pub pushed_number_fit : (s : Setting) → AreFit kind c → IsNamed kind ty element → OwnsAlike kind o spot (Vector ty element) → IfGot (pushed s ty element spot b (λ d. (ws, d)) c) (AreFit kind)
    pushed_number_fit s fit named alike =
        pushed_fitting s (λ d. (ws, d)) fit named alike
        (λ f room now. fit_wrote kind (takes spot f.0 f.1) (slot_behind f.0 ob) element room.object (lies_behind (takes spot f.0 f.1) f.0 room.object room.there room.type room.words) (alike_behind named f.0 room.object room.type) ws wide
        (λ u m q k e there. let own = owned_word element ws u m k e in let z = none m in absurd (omega arith)) now)

    pub pushed_number_touches : (s : Setting) (t : Foot) → Covers kind t spot (Vector ty element) → IfGot (pushed s ty element spot b (λ d. (ws, d)) c) (Touches kind t c)
    pushed_number_touches s t covers =
        pushed_got s (λ d. (ws, d)) (Touches kind t c)
        (λ f room. touches_then kind hand c forest t (and_all t (f.0 ∷ [])) t (takes spot f.0 f.1) (put_last spot f.0 (length ob.slots) (ws, f.1)) (room.touches t covers)
        (touches_beneath kind (takes spot f.0 f.1) (slot_behind f.0 ob) element room.object (lies_behind (takes spot f.0 f.1) f.0 room.object room.there room.type room.words) ws wide (and_all t (f.0 ∷ []))
        (whole f.0 (is_positive (times (f.0 ∷ []) f.0) (let i = one_same f.0 f.0 refl in omega arith)))
        (λ k lt more. let z = none k in absurd (omega arith)))
        (within_self kind c t)
        (within_all kind c t (f.0 ∷ [])
        (λ n lt h. let e = one_there f.0 n (omega arith) in
        let older = room.older (omega arith) in
        subst (Beneath kind c t) (sym older ∙ e) (buffer_beneath kind ty element spot b hand c o ob forest own t covers))))

-- ---- an object that gives its value over, which isn't the vector's and doesn't own it

module _ (kind : Kinds) (ty : TyId) (element : Parts) (spot : Spot) (b : ℕ) (hand : ℕ → ℕ) (c : Content) (o ob : Object) (m : ℕ) (om : Object) (sl : Slot) (forest : IsForest kind (λ k. times (m ∷ []) k + hand k) c)
    (own : OwnsBuffer kind ty element spot b c o ob) (m_there : at c.objects m ≡ Some om) (one_slot : om.slots ≡ sl ∷ []) (m_type : om.ty ≡ ty) (m_wide : length sl.words ≡ width element) (m_apart : spot.object ≢ m)
    (not_owned : owns kind every om spot.object ≡ 0) where
  abbrev before : ℕ → ℕ
  before k = times (m ∷ []) k + hand k

  -- none owns it, since it is in the hand
  unowned : (n k : ℕ) (x : Object) → at c.objects n ≡ Some x → m ≡ k → owns kind every x k ≡ 0
  unowned n k x there e = let l = owned_held kind c n k x there in let h = forest.held k in let a = alive_le kind c k in let i = one_same m k e in omega arith

  m_kinds : (u : ℕ) → kind.word om.ty u ≡ kind_in element u
  m_kinds u = ap (λ t. kind.word t u) m_type ∙ own.laid u

  m_buffer : b ≢ m
  m_buffer e =
      let h = holder_owns kind ty element spot b (λ k. times (m ∷ []) k + hand k) c o ob forest own in
      let z = unowned spot.object b o own.lies.there (sym e) in
      omega arith

  module _ (f : ℕ × Content) (room : HasRoom kind ty element spot b (λ k. times (m ∷ []) k + hand k) c o ob forest own f) where
    abbrev g : Content
    g = takes spot f.0 f.1

    abbrev q : Object
    q = record o { slots = puts_in spot.index spot.word (owner_word (Some f.0) ∷ []) o.slots }

    g_is : takes spot f.0 f.1 ≡ with_object spot.object q f.1
    g_is = wrote_is f.1 spot.object spot.index spot.word (owner_word (Some f.0) ∷ []) o room.holder

    m_born : m < c.births
    m_born = forest.births m om m_there

    m_in_g : at g.objects m ≡ Some om
    m_in_g = room.others m m_born m_apart m_buffer (unowned b m ob own.there refl) ∙ m_there

    m_in_f : at f.1.objects m ≡ Some om
    m_in_f = sym (ap (λ (d : Content). at d.objects m) g_is ∙ at-set_other f.1.objects spot.object m q m_apart) ∙ m_in_g

    holder_in_g : at g.objects spot.object ≡ Some q
    holder_in_g = ap (λ (d : Content). at d.objects spot.object) g_is ∙ at-set_same f.1.objects spot.object spot.object q refl

    g_births : (takes spot f.0 f.1).births ≡ f.1.births
    g_births = ap (λ (d : Content). d.births) g_is

    f_words : slot_words f.1 m 0 ≡ sl.words
    f_words = ap (λ (x : Option Object). words_if (slice_get (slots_if x) 0)) m_in_f ∙ ap (λ (ss : List Slot). words_if (slice_get ss 0)) one_slot

    value_is : (k : ℕ) → owns kind every om k ≡ times (owned_of element (slot_words f.1 m 0)) k
    value_is k = value_owned kind element m g hand om sl m_in_g one_slot m_kinds m_wide room.is_forest k ∙ ap (λ (ws : List ℕ). times (owned_of element ws) k) (sym f_words)

    value_apart : (k : ℕ) → 0 < times (owned_of element (slot_words f.1 m 0)) k → spot.object ≢ k
    value_apart k lt e =
        let v = value_is k in
        let z : owns kind every om k ≡ 0 = subst (λ j. owns kind every om j ≡ 0) e not_owned in
        omega arith

    -- ---- it is taken beside the owner's word, which is written before or behind

    beside : Beside (nat_eq spot.object) f.1 g
    beside = record {
      births = g_births;
      clock = ap (λ (d : Content). d.clock) g_is;
      alike = λ k e. ap (λ (d : Content). at d.objects k) g_is ∙ at-set_other f.1.objects spot.object k q (told_apart spot.object k e);
    }

    alike : Alike (nat_eq spot.object) (consumed element m f.1) (consumed element m g)
    alike = consumed_beside (nat_eq spot.object) element m f.1 g beside (tell_apart spot.object m m_apart) (λ k lt. tell_apart spot.object k (value_apart k lt))

    abbrev v : Words
    v = consumed element m g

    value_none : times (owned_of element (slot_words f.1 m 0)) spot.object ≡ 0
    value_none = sym (value_is spot.object) ∙ not_owned

    holder_born : spot.object < g.births
    holder_born = room.is_forest.births spot.object q holder_in_g

    holder_then : at (consumed element m f.1).1.objects spot.object ≡ Some o
    holder_then = consumed_stays element m f.1 spot.object (let e = g_births in let h = holder_born in omega arith) (λ e. m_apart (sym e)) value_none ∙ room.holder

    holder_later : at v.1.objects spot.object ≡ Some q
    holder_later =
        consumed_others kind element m g hand om sl m_in_g one_slot m_kinds m_wide room.is_forest spot.object holder_born (λ e. m_apart (sym e)) not_owned
        ∙ holder_in_g

    same_after : takes spot f.0 (consumed element m f.1).1 ≡ v.1
    same_after =
        wrote_is (consumed element m f.1).1 spot.object spot.index spot.word (owner_word (Some f.0) ∷ []) o holder_then
        ∙ same_content v.1 (with_object spot.object q (consumed element m f.1).1) (sym alike.contents.births) (sym alike.contents.clock)
        (λ k. one_or_apart spot.object k
        (λ e. at-set_same (consumed element m f.1).1.objects spot.object k q e ∙ sym (ap (at v.1.objects) (sym e) ∙ holder_later))
        (λ ne. at-set_other (consumed element m f.1).1.objects spot.object k q ne ∙ sym (alike.contents.alike k (tell_apart spot.object k ne))))

    same_put : put_last spot f.0 (length ob.slots) (consumed element m f.1) ≡ wrote_spot (slot_behind f.0 ob) v.0 v.1
    same_put =
        ap (λ (d : Content). wrote f.0 (length ob.slots) 0 (consumed element m f.1).0 d) same_after
        ∙ ap (λ (ws : List ℕ). wrote f.0 (length ob.slots) 0 ws v.1) (sym alike.words)

    -- ---- the buffer stays, and its slot is given the value

    buffer_held : 0 < owns kind every q f.0
    buffer_held =
        let h = value_held kind f.1 spot (Vector ty element) o (lies_in kind c spot (Vector ty element) o own.lies f.1 room.holder) (owner_word (Some f.0) ∷ []) refl f.0 in
        let i = one_same f.0 f.0 refl in
        omega arith

    buffer_apart : m ≢ f.0
    buffer_apart e =
        let l = owned_held kind g spot.object f.0 q holder_in_g in
        let h = room.is_forest.held f.0 in
        let a = alive_le kind g f.0 in
        let n = buffer_held in
        let i = one_same m f.0 e in
        omega arith

    buffer_unowned : owns kind every om f.0 ≡ 0
    buffer_unowned = one_or_apart (owns kind every om f.0) 0
        (λ z. z)
        (λ nz. absurd (m_apart (one_owner kind (λ k. times (m ∷ []) k + hand k) g spot.object m f.0 room.is_forest
        (subst (λ (x : Option Object). 0 < owns_if kind every x f.0) (sym holder_in_g) buffer_held)
        (subst (λ (x : Option Object). 0 < owns_if kind every x f.0) (sym m_in_g) (omega arith)))))

    buffer_there : at v.1.objects f.0 ≡ Some room.object
    buffer_there =
        consumed_others kind element m g hand om sl m_in_g one_slot m_kinds m_wide room.is_forest f.0 (room.is_forest.births f.0 room.object room.there) buffer_apart buffer_unowned
        ∙ room.there

    lies_there : LiesAt kind v.1 (slot_behind f.0 ob) element room.object
    lies_there = lies_behind kind ty element spot b (λ k. times (m ∷ []) k + hand k) c o ob forest own v.1 f.0 room.object buffer_there room.type room.words

    value_wide : length v.0 ≡ width element
    value_wide = consumed_wide kind element m g hand om sl m_in_g one_slot m_kinds m_wide room.is_forest

    put_forest : IsForest kind hand (put_last spot f.0 (length ob.slots) (consumed element m f.1))
    put_forest =
        subst (IsForest kind hand) (sym same_put)
        (forest_value kind v.1 (slot_behind f.0 ob) element room.object lies_there v.0 value_wide (λ k. times (owned_of element v.0) k + hand k) hand
        (consumed_forest kind element m g hand om sl m_in_g one_slot m_kinds m_wide room.is_forest)
        (λ j x lt there. let l = consumed_lower kind element m g hand om sl m_in_g one_slot m_kinds m_wide room.is_forest j x lt there in
        let r = ap kind.rank (m_type ∙ sym room.type) in
        omega arith)
        (λ k. omega arith))

    put_fit : IsNamed kind ty element → AreFit kind g → AreFit kind (put_last spot f.0 (length ob.slots) (consumed element m f.1))
    put_fit named fit =
        let fits = consumed_fit kind element m g hand om sl m_in_g one_slot m_kinds (λ u. ap (λ t. kind.owned t u) m_type ∙ named.1 u) m_wide room.is_forest fit in
        subst (AreFit kind) (sym same_put)
        (fit_wrote kind v.1 (slot_behind f.0 ob) element room.object lies_there (alike_behind kind ty element spot b (λ k. times (m ∷ []) k + hand k) c o ob forest own named f.0 room.object room.type) v.0 value_wide fits.1 fits.0)

    put_touches : (t : Foot) → Covers kind t spot (Vector ty element) → Beneath kind c t m → Touches kind t c (put_last spot f.0 (length ob.slots) (consumed element m f.1))
    put_touches t covers low =
        subst (Touches kind t c) (sym same_put)
        (touches_then kind (λ k. times (m ∷ []) k + hand k) c forest t (and_all t (f.0 ∷ owned_of element v.0)) t v.1 (wrote_spot (slot_behind f.0 ob) v.0 v.1)
        (touches_then kind (λ k. times (m ∷ []) k + hand k) c forest t (and_all t (m ∷ [])) t g v.1 (room.touches t covers)
        (consumed_touches kind element m g hand om sl m_in_g one_slot m_kinds m_wide room.is_forest (and_all t (m ∷ [])) (whole m (is_positive (times (m ∷ []) m) (let i = one_same m m refl in omega arith))))
        (within_self kind c t) (within_all kind c t (m ∷ []) (λ n lt h. subst (Beneath kind c t) (one_there m n (omega arith)) low)))
        (touches_beneath kind v.1 (slot_behind f.0 ob) element room.object lies_there v.0 value_wide (and_all t (f.0 ∷ owned_of element v.0))
        (whole f.0 (is_positive (times (f.0 ∷ owned_of element v.0) f.0) (let i = one_same f.0 f.0 refl in omega arith)))
        (λ k lt more. whole k (is_positive (times (f.0 ∷ owned_of element v.0) k) (omega arith))))
        (within_self kind c t)
        (within_all kind c t (f.0 ∷ owned_of element v.0) (λ n lt h. one_or_apart (times (owned_of element v.0) n) 0
        (λ z. let e = one_there f.0 n (omega arith) in
        let older = room.older (omega arith) in
        subst (Beneath kind c t) (sym older ∙ e) (buffer_beneath kind ty element spot b (λ k. times (m ∷ []) k + hand k) c o ob forest own t covers))
        (λ nz. let was = consumed_old kind element m g hand om sl m_in_g one_slot m_kinds m_wide room.is_forest n (omega arith) (let a = (room.touches t covers).births in omega arith) in
        under m n low (subst (λ (x : Option Object). 0 < owns_if kind every x n) (sym m_there) was)))))

  pub pushed_object_forest : (s : Setting) → IfGot (pushed s ty element spot b (consumed element m) c) (IsForest kind hand)
  pushed_object_forest s = pushed_got kind ty element spot b (λ k. times (m ∷ []) k + hand k) c o ob forest own s (consumed element m) (IsForest kind hand) put_forest

  pub pushed_object_touches : (s : Setting) (t : Foot) → Covers kind t spot (Vector ty element) → Beneath kind c t m → IfGot (pushed s ty element spot b (consumed element m) c) (Touches kind t c)
  pushed_object_touches s t covers low =
      pushed_got kind ty element spot b (λ k. times (m ∷ []) k + hand k) c o ob forest own s (consumed element m) (Touches kind t c) (λ f room. put_touches f room t covers low)

  pub pushed_object_fit : (s : Setting) → AreFit kind c → IsNamed kind ty element → OwnsAlike kind o spot (Vector ty element) → IfGot (pushed s ty element spot b (consumed element m) c) (AreFit kind)
  pushed_object_fit s fit named alike =
      pushed_fitting kind ty element spot b (λ k. times (m ∷ []) k + hand k) c o ob forest own s (consumed element m) fit named alike (λ f room now. put_fit f room named now)
