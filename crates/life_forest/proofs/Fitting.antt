-- Objects that fit their types, through the changes of which all others are made.
use Rattle.std.proofs.Common.{◌≡◌, ℕ, suc, ◌+◌, ◌<◌, true, List, [], ◌∷◌, length, Some, refl, sym, ap, subst, ◌∙◌, arith, ⊎_elim}
use Rattle.std.specs.Prelude.{◌&&◌, slice_index, take}
use Rattle.life_store.specs.Cells.{at, at-set_same, at-set_other, at-unset_same, at-unset_other}
use Rattle.life_store.specs.Content.{Object, Content, resized, with_object, with_resize, without}
use Rattle.life_store.specs.Parts.{Parts, width}
use Rattle.life_store.specs.Places.{Spot, wrote_spot}
use Rattle.life_store.proofs.CellLemmas.{none_some, some_same}
use Rattle.life_store.proofs.MapLemmas.{one_or_apart}
use Rattle.life_forest.specs.Changes.{ticked, without_all}
use Rattle.life_forest.specs.Kinds.{Kinds, owned_type}
use Rattle.life_store.specs.Kinds.{Owner, is_owner, kind_in}
use Rattle.life_forest.specs.Owned.{times}
use Rattle.life_forest.specs.Typed.{AreFit, IsFit}
use Rattle.life_forest.specs.Values.{owned_of}
use Rattle.life_forest.proofs.Among.{among-puts, among-resized, among-take, comes_from, from_among, to_among, word_counted}
use Rattle.life_forest.proofs.ByParts.{owned_words}
use Rattle.life_forest.proofs.Counting.{times-words_list}
use Rattle.life_forest.proofs.Lying.{LiesAt}
use Rattle.life_forest.proofs.Puts.{puts_in, wrote_is}
use Rattle.life_forest.proofs.Steps.{was_there}
use Rattle.life_forest.proofs.Widths.{wide-puts, wide-resized, wide-take}

-- the owners among the words of a value own objects of the types that its parts name
abbrev pub Flat : Content → Parts → List ℕ → Type 0
Flat c p ws = (u m : ℕ) (q : Object) → kind_in p u ≡ Owner → slice_index ws u ≡ suc m → at c.objects m ≡ Some q → owned_type p u ≡ Some q.ty

-- what an owner's word owns is what the value owns
pub owned_word : (p : Parts) (ws : List ℕ) (u m : ℕ) → kind_in p u ≡ Owner → slice_index ws u ≡ suc m → 0 < times (owned_of p ws) m
owned_word p ws u m k e =
    let a = word_counted (λ x. is_owner (kind_in p x) && true) ws u m e (ap (λ x. is_owner x && true) k) in
    let b = times-words_list (λ x. is_owner (kind_in p x) && true) ws m in
    let c = ap (λ (xs : List ℕ). times xs m) (owned_words p ws) in
    omega arith

-- an object keeps its type
abbrev pub KeepsTypes : Content → Content → Type 0
KeepsTypes c d = (m : ℕ) (x q : Object) → at c.objects m ≡ Some x → at d.objects m ≡ Some q → x.ty ≡ q.ty

-- what lives stays of its type, so the value is as flat
pub flat_later : (c d : Content) (p : Parts) (ws : List ℕ) → ((m : ℕ) → 0 < times (owned_of p ws) m → (x : Object) × (at c.objects m ≡ Some x)) → KeepsTypes c d → Flat c p ws → Flat d p ws
flat_later c d p ws living keeps flat u m q k e there =
    let x = living m (owned_word p ws u m k e) in
    flat u m x.0 k e x.1 ∙ ap Some (keeps m x.0 q x.1 there)

-- .. and is there in the one where it is in the other
abbrev pub Was : Content → Content → Type 0
Was c d = (m : ℕ) (q : Object) → at d.objects m ≡ Some q → (x : Object) × (at c.objects m ≡ Some x) × (x.ty ≡ q.ty)

was_there_less : (gone : List ℕ) (d : Content) (m : ℕ) (q : Object) → at (without_all gone d).objects m ≡ Some q → at d.objects m ≡ Some q
was_there_less [] d m q is = is
was_there_less (n ∷ ns) d m q is = one_or_apart n m
    (λ e. absurd (none_some (sym (at-unset_same d.objects n m e) ∙ was_there_less ns (without n d) m q is)))
    (λ ne. sym (at-unset_other d.objects n m ne) ∙ was_there_less ns (without n d) m q is)

pub was_less : (c : Content) (gone : List ℕ) (d : Content) → Was c d → Was c (without_all gone d)
was_less c gone d was m q is = was m q (was_there_less gone d m q is)

module _ (kind : Kinds) where
  -- an object fits where what it owns has the types still
  pub fit_later : (c d : Content) (o : Object) → ((m : ℕ) (q : Object) → at d.objects m ≡ Some q → (x : Object) × (at c.objects m ≡ Some x) × (x.ty ≡ q.ty)) → IsFit kind c o → IsFit kind d o
  fit_later c d o was h = record {
    owned = λ i u m q k e there. let x = was m q there in h.owned i u m x.0 k e x.1 ∙ ap Some x.2;
    width = h.width;
    slots = h.slots;
  }

  module _ (c : Content) (n : ℕ) (o q : Object) (there : at c.objects n ≡ Some o) (same : q.ty ≡ o.ty) where
    pub was_with : (m : ℕ) (x : Object) → at (with_object n q c).objects m ≡ Some x → (y : Object) × (at c.objects m ≡ Some y) × (y.ty ≡ x.ty)
    was_with m x is = one_or_apart n m
        (λ e. (o, sym (ap (at c.objects) e) ∙ there, sym same ∙ ap (λ (z : Object). z.ty) (some_same (sym (at-set_same c.objects n m q e) ∙ is))))
        (λ ne. (x, sym (at-set_other c.objects n m q ne) ∙ is, refl))

    -- another object of the type in its place
    pub fit_with : AreFit kind c → IsFit kind c q → AreFit kind (with_object n q c)
    fit_with fit new m x is = one_or_apart n m
        (λ e. fit_later c (with_object n q c) x was_with (subst (IsFit kind c) (some_same (sym (at-set_same c.objects n m q e) ∙ is)) new))
        (λ ne. fit_later c (with_object n q c) x was_with (fit m x (sym (at-set_other c.objects n m q ne) ∙ is)))

  pub fit_without_all : (gone : List ℕ) (c : Content) → AreFit kind c → AreFit kind (without_all gone c)
  fit_without_all gone c fit n o there =
      fit_later c (without_all gone c) o (λ m q is. (q, was_there kind gone c m q is, refl)) (fit n o (was_there kind gone c n o there))

  pub fit_ticked : (c : Content) → AreFit kind c → AreFit kind (ticked c)
  fit_ticked c fit n o there = let h = fit n o there in record { owned = h.owned; width = h.width; slots = h.slots }

  -- ---- an object is resized

  pub fit_resized : (c : Content) (t size since : ℕ) (o : Object) → IsFit kind c o → IsFit kind c (resized t size since o)
  fit_resized c t size since o h = record {
    owned = λ i u m q k e there.
        let r = from_among o.slots u m (among-resized o.width t size since o.slots u m (to_among (resized t size since o).slots i u m e)) in
        h.owned r.0 u m q k r.1 there;
    width = h.width;
    slots = wide-resized o.width t size since o.slots h.slots;
  }

  -- .. or has its first slots alone
  pub fit_taken : (c : Content) (size : ℕ) (o : Object) → IsFit kind c o → IsFit kind c (record o { slots = take size o.slots })
  fit_taken c size o h = record {
    owned = λ i u m q k e there.
        let r = from_among o.slots u m (among-take size o.slots u m (to_among (take size o.slots) i u m e)) in
        h.owned r.0 u m q k r.1 there;
    width = h.width;
    slots = wide-take o.width size o.slots h.slots;
  }

  pub fit_resize : (c : Content) (n size since : ℕ) (o : Object) → at c.objects n ≡ Some o → AreFit kind c → AreFit kind (with_resize n size since o c)
  fit_resize c n size since o there fit =
      fit_with (ticked c) n o (resized (c.clock + 1) size since o) there refl (fit_ticked c fit) (fit_resized (ticked c) (c.clock + 1) size since o (fit_ticked c fit n o there))

  -- ---- a value is written

  -- the object's words are of the types that the value's parts name
  abbrev pub OwnsAlike : Object → Spot → Parts → Type 0
  OwnsAlike o spot p = (u : ℕ) → u < width p → kind.owned o.ty (spot.word + u) ≡ owned_type p u

  module _ (c : Content) (spot : Spot) (p : Parts) (o : Object) (lies : LiesAt kind c spot p o) (alike : OwnsAlike o spot p) (vs : List ℕ) (wide : length vs ≡ width p) where
    pub fit_puts : Flat c p vs → IsFit kind c o → IsFit kind c (record o { slots = puts_in spot.index spot.word vs o.slots })
    fit_puts flat h = record {
      owned = λ i u m q k e there. ⊎_elim
          (λ a. let r = from_among o.slots u m a in h.owned r.0 u m q k r.1 there)
          (λ b. let r = comes_from vs spot.word u m b in
          let small : r.0 < width p = (let l = r.3 in omega arith) in
          let kinds : kind_in p r.0 ≡ Owner = sym (lies.kinds r.0 small) ∙ ap (kind.word o.ty) (sym r.1) ∙ k in
          ap (kind.owned o.ty) r.1 ∙ alike r.0 small ∙ flat r.0 m q kinds r.2 there)
          (among-puts vs o.slots spot.index spot.word u m (to_among (puts_in spot.index spot.word vs o.slots) i u m e));
      width = h.width;
      slots = wide-puts o.width vs o.slots spot.index spot.word h.slots;
    }

    pub fit_wrote : Flat c p vs → AreFit kind c → AreFit kind (wrote_spot spot vs c)
    fit_wrote flat fit =
        subst (AreFit kind) (sym (wrote_is c spot.object spot.index spot.word vs o lies.there))
        (fit_with c spot.object o (record o { slots = puts_in spot.index spot.word vs o.slots }) lies.there refl fit (fit_puts flat (fit spot.object o lies.there)))
