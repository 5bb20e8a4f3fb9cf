-- push_back: the buffer has room for one more, and then the slot is given the value.
use Rattle.std.proofs.Common.{◌≡◌, ◌≢◌, ℕ, ◌+◌, ◌<◌, cond, List, [], ◌∷◌, length, Option, Some, refl, sym, ap, subst, ◌∙◌, arith}
use Rattle.std.specs.Prelude.{nat_lt}
use Rattle.life_types.specs.declared.ty.TyId.{TyId}
use Rattle.life_store.specs.Cells.{at, at-set_same, at-set_other}
use Rattle.life_store.specs.Content.{Object, Content, resized, with_object, with_resize}
use Rattle.life_store.specs.Edits.{capacity_of, grown, owns as takes, regrown, with_room}
use Rattle.life_store.specs.Effects.{Setting, Attempt, Got}
use Rattle.life_store.specs.Held.{owner_word, resized_at, resized_if, slots_if}
use Rattle.life_store.specs.Parts.{Parts, Vector, width}
use Rattle.life_store.specs.Places.{Spot, spot_words}
use Rattle.life_forest.specs.Kinds.{Kinds}
use Rattle.life_forest.specs.Owned.{every, times, owns}
use Rattle.life_forest.specs.Forest.{IsForest, Foot, Touches}
use Rattle.life_forest.specs.Values.{AllWide, IsNamed, listed, owned_of}
use Rattle.life_forest.proofs.Coming.{IfGot}
use Rattle.life_forest.proofs.Counting.{one_there}
use Rattle.life_forest.proofs.Feet.{within_self}
use Rattle.life_forest.proofs.Growing.{OwnsBuffer, apart, buffer_beneath, fresh_grown, grown_others, rows, rows_count}
use Rattle.life_forest.proofs.Lying.{LiesAt, Covers, forest_value, lies_in, spot_words_in, touches_value, value_beneath}
use Rattle.life_forest.proofs.Puts.{AreWords, puts_in, wrote_is}
use Rattle.life_forest.proofs.Regrowing.{fresh_one, fresh_sized, if_cond, left, left_fit, left_forest, left_holder, left_touches, regrown_got, taken_over}
use Rattle.life_forest.proofs.Resizing.{resize_forest, resize_touches}
use Rattle.life_forest.proofs.Steps.{touches_then}
use Rattle.life_forest.proofs.Widths.{are_words, are_words-filled, count-resized, wide-resized}
use Rattle.life_forest.specs.Typed.{AreFit}
use Rattle.life_forest.proofs.Fitting.{OwnsAlike, fit_resize, fit_wrote}
use Rattle.life_forest.proofs.FittingBirths.{flat_owner}

module _ (kind : Kinds) (ty : TyId) (element : Parts) (spot : Spot) (b : ℕ) (hand : ℕ → ℕ) (c : Content) (o ob : Object) (forest : IsForest kind hand c) (own : OwnsBuffer kind ty element spot b c o ob) where
  -- the vector has a buffer with one more slot, once its word is written
  pub record HasRoom (f : ℕ × Content) : Type 0 where
    pub holder : at f.1.objects spot.object ≡ Some o
    pub is_forest : IsForest kind hand (takes spot f.0 f.1)
    pub touches : (t : Foot) → Covers kind t spot (Vector ty element) → Touches kind t c (takes spot f.0 f.1)
    pub object : Object
    pub there : at (takes spot f.0 f.1).objects f.0 ≡ Some object
    pub type : object.ty ≡ ty
    pub words : AreWords (length ob.slots) 0 (width element) object.slots
    pub others : (k : ℕ) → k < c.births → spot.object ≢ k → b ≢ k → owns kind every ob k ≡ 0 → at (takes spot f.0 f.1).objects k ≡ at c.objects k
    pub older : f.0 < c.births → f.0 ≡ b

  -- ---- a slot more in the buffer that is there

  abbrev size : ℕ
  size = length ob.slots

  abbrev wider : Object
  wider = resized (c.clock + 1) (size + 1) size ob

  abbrev longer : Content
  longer = with_resize b (size + 1) size ob c

  holder_apart : spot.object ≢ b
  holder_apart = apart kind ty element spot b hand c o ob forest own

  holder_longer : at longer.objects spot.object ≡ Some o
  holder_longer = at-set_other c.objects b spot.object wider (λ e. holder_apart (sym e)) ∙ own.lies.there

  lies_longer : LiesAt kind longer spot (Vector ty element) o
  lies_longer = lies_in kind c spot (Vector ty element) o own.lies longer holder_longer

  longer_forest : IsForest kind hand longer
  longer_forest = resize_forest kind hand c b (size + 1) size ob forest own.there (omega arith)

  abbrev again : Content
  again = takes spot b longer

  old_longer : (k : ℕ) → times (owned_of (Vector ty element) (spot_words longer spot 1)) k ≡ times (b ∷ []) k
  old_longer k = ap (λ (xs : List ℕ). times (owned_of (Vector ty element) xs) k) (spot_words_in kind c spot (Vector ty element) o own.lies longer holder_longer) ∙ ap (λ x. times (listed x) k) own.owned

  again_is : takes spot b longer ≡ with_object spot.object (record o { slots = puts_in spot.index spot.word (owner_word (Some b) ∷ []) o.slots }) longer
  again_is = wrote_is longer spot.object spot.index spot.word (owner_word (Some b) ∷ []) o holder_longer

  in_place : HasRoom (b, longer)
  in_place = record {
    holder = holder_longer;
    is_forest =
        forest_value kind longer spot (Vector ty element) o lies_longer (owner_word (Some b) ∷ []) refl hand hand longer_forest
        (λ m q lt below. let e = one_there b m (omega arith) in
        let r = ap (λ (x : Object). kind.rank x.ty) (some (sym (at-set_same c.objects b m wider e) ∙ below)) in
        let s = ap kind.rank own.same in
        let l = own.lower in
        omega arith)
        (λ k. let e = old_longer k in omega arith);
    touches = λ t covers.
        touches_then kind hand c forest t t t longer again (resize_touches kind hand c b (size + 1) size ob forest own.there (omega arith) t (buffer_beneath kind ty element spot b hand c o ob forest own t covers))
        (touches_value kind longer spot (Vector ty element) o lies_longer (owner_word (Some b) ∷ []) refl t covers
        (λ k lt more. let e = old_longer k in value_beneath kind longer spot (Vector ty element) o lies_longer t covers k (omega arith)))
        (within_self kind c t) (within_self kind c t);
    object = wider;
    there = ap (λ (x : Content). at x.objects b) again_is ∙ at-set_other longer.objects spot.object b _ holder_apart ∙ at-set_same c.objects b b wider refl;
    type = own.same;
    words =
        subst (λ w. AreWords size 0 w wider.slots) own.is.words
        (are_words ob.width size wider.slots (wide-resized ob.width (c.clock + 1) (size + 1) size ob.slots (subst (λ w. AllWide w ob.slots) (sym own.is.words) own.is.wide))
        (let n = count-resized ob.width (c.clock + 1) (size + 1) size ob.slots (omega arith) (omega arith) in omega arith));
    others = λ k lt x y z. ap (λ (d : Content). at d.objects k) again_is ∙ at-set_other longer.objects spot.object k _ x ∙ at-set_other c.objects b k wider y;
    older = λ lt. refl;
  }
    where
      some : {x y : Object} → Some x ≡ Some y → x ≡ y
      some e = cc

  -- ---- a fresh buffer

  module _ (capacity : ℕ) where
    abbrev fresh : ℕ × Content
    fresh = left kind ty element spot b hand c o ob forest own capacity (size + 1)

    gone_over : HasRoom fresh
    gone_over =
        let sized = fresh_sized kind ty element spot b hand c o ob forest own capacity (size + 1) in
        let over = taken_over kind ty element spot b hand c o ob forest own capacity (size + 1) in
        record {
          holder = left_holder kind ty element spot b hand c o ob forest own capacity (size + 1);
          is_forest = left_forest kind ty element spot b hand c o ob forest own capacity (size + 1);
          touches = left_touches kind ty element spot b hand c o ob forest own capacity (size + 1);
          object = _;
          there = ap (λ (d : Content). at d.objects c.births) over ∙ fresh_grown kind ty element spot b hand c o ob forest own (size + 1) (fresh_one kind ty element spot b hand c o ob forest own capacity (size + 1)) sized;
          type = sized.type;
          words =
              are_words-filled sized.object.slots (rows kind ty element spot b hand c o ob forest own (size + 1) (fresh_one kind ty element spot b hand c o ob forest own capacity (size + 1)) sized) size 0 (width element)
              (let n = rows_count kind ty element spot b hand c o ob forest own (size + 1) (fresh_one kind ty element spot b hand c o ob forest own capacity (size + 1)) sized in omega arith)
              (are_words (width element) size sized.object.slots sized.wide (let n = sized.count in omega arith));
          others = λ k lt x y z. ap (λ (d : Content). at d.objects k) over ∙ grown_others kind ty element spot b hand c o ob forest own (size + 1) (fresh_one kind ty element spot b hand c o ob forest own capacity (size + 1)) sized k lt x y z;
          older = λ lt. absurd (omega arith);
        }

  abbrev cond_room : Setting → ℕ → Attempt (ℕ × Content)
  cond_room s n = cond (nat_lt n (capacity_of c b)) (Got (b, resized_at b (n + 1) n c)) (regrown s ty element b (grown s.given.growth n (capacity_of c b)) (n + 1) c)

  -- .. either way
  pub room_there : (s : Setting) → IfGot (with_room s ty element b c) HasRoom
  room_there s =
      subst (λ n. IfGot (cond_room s n) HasRoom) (sym (ap (λ (x : Option Object). length (slots_if x)) own.there))
      (if_cond (nat_lt size (capacity_of c b)) (Got (b, resized_at b (size + 1) size c)) (regrown s ty element b (grown s.given.growth size (capacity_of c b)) (size + 1) c) HasRoom
      (subst (λ (d : Content). HasRoom (b, d)) (sym (ap (λ (x : Option Object). resized_if x b (size + 1) size c) own.there)) in_place)
      (regrown_got kind ty element spot b hand c o ob forest own (grown s.given.growth size (capacity_of c b)) (size + 1) s HasRoom (gone_over (grown s.given.growth size (capacity_of c b)))))

  -- ---- all fits

  in_place_fit : AreFit kind c → OwnsAlike kind o spot (Vector ty element) → AreFit kind again
  in_place_fit fit alike =
      fit_wrote kind longer spot (Vector ty element) o lies_longer alike (owner_word (Some b) ∷ []) refl
      (flat_owner longer (Vector ty element) ty b wider (λ u. refl) (at-set_same c.objects b b wider refl) own.same)
      (fit_resize kind c b (size + 1) size ob own.there fit)

  pub room_fit : (s : Setting) → AreFit kind c → IsNamed kind ty element → OwnsAlike kind o spot (Vector ty element) → IfGot (with_room s ty element b c) (λ f. AreFit kind (takes spot f.0 f.1))
  room_fit s fit named alike =
      subst (λ n. IfGot (cond_room s n) (λ f. AreFit kind (takes spot f.0 f.1))) (sym (ap (λ (x : Option Object). length (slots_if x)) own.there))
      (if_cond (nat_lt size (capacity_of c b)) (Got (b, resized_at b (size + 1) size c)) (regrown s ty element b (grown s.given.growth size (capacity_of c b)) (size + 1) c) (λ f. AreFit kind (takes spot f.0 f.1))
      (subst (λ (d : Content). AreFit kind (takes spot b d)) (sym (ap (λ (x : Option Object). resized_if x b (size + 1) size c) own.there)) (in_place_fit fit alike))
      (regrown_got kind ty element spot b hand c o ob forest own (grown s.given.growth size (capacity_of c b)) (size + 1) s (λ f. AreFit kind (takes spot f.0 f.1))
      (left_fit kind ty element spot b hand c o ob forest own (grown s.given.growth size (capacity_of c b)) (size + 1) fit named alike)))
