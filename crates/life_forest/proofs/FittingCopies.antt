-- Copies fit their types.
use Rattle.std.proofs.Common.{◌≡◌, ℕ, ◌+◌, ◌<◌, List, [], ◌∷◌, length, Option, Some, None, refl, sym, ap, subst, ◌∙◌, arith}
use Rattle.std.specs.Prelude.{drop, slice_index, take}
use Rattle.life_types.specs.declared.ty.TyId.{TyId}
use Rattle.life_store.specs.Cells.{at}
use Rattle.life_store.specs.Content.{Slot, Content, with_birth}
use Rattle.life_store.specs.Effects.{Setting, Attempt, Got, then_get}
use Rattle.life_store.specs.Held.{filled, owned_in, resized_at, slots_if}
use Rattle.life_store.specs.Owners.{Words, birth, copied, copied_buffer, copied_slots, owning, sized_birth}
use Rattle.life_store.specs.Parts.{Parts, Single, Raw, Iterates, Views, Text, Vector, Unique, Member, NoMember, width}
use Rattle.life_forest.specs.Kinds.{Kinds, owned_type}
use Rattle.life_forest.specs.Owned.{times, alive}
use Rattle.life_forest.specs.Forest.{IsForest}
use Rattle.life_forest.specs.Typed.{AreFit}
use Rattle.life_forest.specs.Values.{AllWide, IsLaid, IsNamed, Known, Laid, Named, OwnedKnown, listed, owned_of, owned_rows, owned_slots}
use Rattle.life_forest.proofs.Below.{lives}
use Rattle.life_forest.proofs.ByParts.{owned_is}
use Rattle.life_forest.proofs.Coming.{CameWords, IfGot, came_none, got_then, if_room}
use Rattle.life_forest.proofs.Copying.{AllReady, CameRows, Sized, copied_came, copied_into, sized_birth_came, slots_copy, slots_ready, words_ready}
use Rattle.life_forest.proofs.Counting.{one_same, times-append}
use Rattle.life_forest.proofs.Filling.{filled_there, full}
use Rattle.life_forest.proofs.Fitting.{flat_later}
use Rattle.life_forest.proofs.FittingBirths.{FitWords, came_keeps, fit_sized, flat_owner, got_both, joined_fit, pointer_owner, value_owner}
use Rattle.life_forest.proofs.FittingRows.{RowsFlat, fit_filled, rows_more, rows_none}
use Rattle.life_forest.proofs.Lists.{length_front, length_back}
use Rattle.life_forest.proofs.Steps.{owned_held, times-owned_list}
use Rattle.life_forest.proofs.Widths.{AllLong}

module _ (kind : Kinds) where
  abbrev RowsFit : Parts → List (List ℕ) × Content → Type 0
  RowsFit p vs = AreFit kind vs.1 × RowsFlat vs.1 p vs.0 × AllLong (width p) vs.0

  -- what is copied, and of what
  abbrev Copy : (List ℕ → Content → Attempt Words) → Parts → ℕ → (Parts → (ℕ → ℕ) → Content → Words → Type 0) → Type 0
  Copy copy p bound Good =
      (ws : List ℕ) → length ws ≡ width p → (hand : ℕ → ℕ) (c : Content) → IsForest kind hand c → Known kind c p ws → ((k : ℕ) → 0 < times (owned_of p ws) k → 0 < alive c k) → AreFit kind c → IfGot (copy ws c) (Good p hand c)

  abbrev CameFit : ℕ → Parts → (ℕ → ℕ) → Content → Words → Type 0
  CameFit bound p hand c v = CameWords kind bound hand p c v × FitWords kind p v

  rows_fit : (s : Setting) (p : Parts) (copy : List ℕ → Content → Attempt Words) (bound : ℕ)
      → ((ws : List ℕ) → length ws ≡ width p → (hand : ℕ → ℕ) (c : Content) → IsForest kind hand c → Known kind c p ws → ((k : ℕ) → 0 < times (owned_of p ws) k → 0 < alive c k) → IfGot (copy ws c) (CameWords kind bound hand p c))
      → Copy copy p bound (λ q h d. FitWords kind q)
      → (ss : List Slot) → AllWide (width p) ss → (hand : ℕ → ℕ) (c : Content) → IsForest kind hand c → AllReady kind c p ss → AreFit kind c → IfGot (copied_slots copy ss c) (RowsFit p)
  rows_fit s p copy bound came each [] wide hand c forest ready fit = (fit, rows_none c p, tt)
  rows_fit s p copy bound came each (x ∷ xs) wide hand c forest ready fit =
      let living : (k : ℕ) → 0 < times (owned_of p x.words) k → 0 < alive c k = λ k lt. let a = times-append (owned_of p x.words) (owned_slots p xs) k in ready.1 k (omega arith) in
      got_then (copy x.words c) (λ v. then_get (copied_slots copy xs v.1) (λ vs. Got (v.0 ∷ vs.0, vs.1))) (CameFit bound p hand c) (RowsFit p)
      (got_both (copy x.words c) (CameWords kind bound hand p c) (FitWords kind p) (came x.words wide.0 hand c forest ready.0.0 living) (each x.words wide.0 hand c forest ready.0.0 living fit))
      (λ v a.
      let later = slots_ready kind c v.1 hand forest a.0.0.births a.0.0.same p xs (ready.0.1, λ k lt. let e = times-append (owned_of p x.words) (owned_slots p xs) k in ready.1 k (omega arith)) in
      got_then (copied_slots copy xs v.1) (λ vs. Got (v.0 ∷ vs.0, vs.1)) (λ vs. CameRows kind bound (λ k. times (owned_of p v.0) k + hand k) p v.1 vs × RowsFit p vs) (RowsFit p)
      (got_both (copied_slots copy xs v.1) (CameRows kind bound (λ k. times (owned_of p v.0) k + hand k) p v.1) (RowsFit p)
      (slots_copy kind s p copy bound came xs wide.1 (λ k. times (owned_of p v.0) k + hand k) v.1 a.0.0.forest later)
      (rows_fit s p copy bound came each xs wide.1 (λ k. times (owned_of p v.0) k + hand k) v.1 a.0.0.forest later a.1.0))
      (λ vs b. (
        b.1.0,
        rows_more vs.1 p v.0 vs.0
            (flat_later v.1 vs.1 p v.0 (λ m lt. let e = a.0.0.forest.held m in lives kind v.1 m (omega arith))
            (came_keeps kind bound (λ k. times (owned_of p v.0) k + hand k) (λ k. times (owned_of p v.0) k + hand k) (owned_rows p vs.0) v.1 vs.1 a.0.0.forest b.0) a.1.1)
            b.1.1,
        (a.0.1, b.1.2),
      )))

  pub sized_fit : (s : Setting) (ty : TyId) (w size : ℕ) (hand : ℕ → ℕ) (c : Content) → IsForest kind hand c → kind.width ty ≡ w → AreFit kind c → IfGot (sized_birth s ty w size c) (λ b. AreFit kind b.1)
  sized_fit s ty w size hand c forest wide fit =
      got_then (birth s ty w size c) (λ b. Got (b.0, resized_at b.0 size 0 b.1)) (λ b. AreFit kind (resized_at b.0 size 0 b.1)) (λ b. AreFit kind b.1)
      (if_room _ _ (c.births, with_birth ty w size c) (λ b. AreFit kind (resized_at b.0 size 0 b.1)) (fit_sized kind hand c ty w size size forest wide fit))
      (λ b h. h)

  module _ (s : Setting) (q p : Parts) (bound : ℕ) (ty : TyId) (w : ℕ) (copy : List ℕ → Content → Attempt Words) (names : (u : ℕ) → owned_type q u ≡ Some ty) (lt : kind.rank ty < bound) (laid : IsLaid kind ty p) (named : IsNamed kind ty p) (wide : w ≡ width p)
      (came : (ws : List ℕ) → length ws ≡ width p → (hand : ℕ → ℕ) (c : Content) → IsForest kind hand c → Known kind c p ws → ((k : ℕ) → 0 < times (owned_of p ws) k → 0 < alive c k) → IfGot (copy ws c) (CameWords kind (kind.rank ty) hand p c))
      (each : Copy copy p (kind.rank ty) (λ x h d. FitWords kind x)) where
    into_fit : (ss : List Slot) → AllWide (width p) ss → (hand : ℕ → ℕ) (c : Content) → IsForest kind hand c → AllReady kind c p ss → AreFit kind c → IfGot (copied_into kind s ty w copy ss c) (FitWords kind q)
    into_fit ss slots hand c forest ready fit =
        got_then (sized_birth s ty w (length ss) c) (λ b. then_get (copied_slots copy ss b.1) (λ vs. Got (owning (b.0, filled b.0 vs.0 vs.1)))) (λ b. Sized kind bound hand ty w (length ss) c b × AreFit kind b.1) (FitWords kind q)
        (got_both (sized_birth s ty w (length ss) c) (Sized kind bound hand ty w (length ss) c) (λ b. AreFit kind b.1)
        (sized_birth_came kind bound hand ty w (length ss) c lt forest s) (sized_fit s ty w (length ss) hand c forest (named.0 ∙ sym wide) fit))
        (λ b h.
        let sized = h.0 in
        let later = slots_ready kind c b.1 hand forest sized.came.births sized.came.same p ss ready in
        got_then (copied_slots copy ss b.1) (λ vs. Got (owning (b.0, filled b.0 vs.0 vs.1))) (λ vs. CameRows kind (kind.rank ty) (λ k. times (b.0 ∷ []) k + hand k) p b.1 vs × RowsFit p vs) (FitWords kind q)
        (got_both (copied_slots copy ss b.1) (CameRows kind (kind.rank ty) (λ k. times (b.0 ∷ []) k + hand k) p b.1) (RowsFit p)
        (slots_copy kind s p copy (kind.rank ty) came ss slots (λ k. times (b.0 ∷ []) k + hand k) b.1 sized.came.forest later)
        (rows_fit s p copy (kind.rank ty) came each ss slots (λ k. times (b.0 ∷ []) k + hand k) b.1 sized.came.forest later h.1))
        (λ vs k.
        let there : at vs.1.objects b.0 ≡ Some sized.object = k.0.same b.0 (sized.came.forest.births b.0 sized.object sized.there) ∙ sized.there in
        let width_is : sized.object.width ≡ width p = (k.1.0 b.0 sized.object there).width ∙ ap kind.width sized.type ∙ named.0 in (
          fit_filled kind vs.1 b.0 sized.object p vs.0 there (λ u. ap (λ t. kind.word t u) sized.type ∙ laid u) (λ u. ap (λ t. kind.owned t u) sized.type ∙ named.1 u) k.1.1
              (subst (λ n. AllLong n vs.0) (sym width_is) k.1.2) k.1.0,
          flat_owner (filled b.0 vs.0 vs.1) q ty b.0 (full vs.1 b.0 sized.object vs.0 there) names (filled_there vs.1 b.0 sized.object vs.0 there) sized.type,
        )))

    pub buffer_fit : (x : Option ℕ) (hand : ℕ → ℕ) (c : Content) → IsForest kind hand c → OwnedKnown kind c p (Known kind c p) x → ((k : ℕ) → 0 < times (listed x) k → 0 < alive c k) → AreFit kind c
        → IfGot (copied_buffer s ty w copy x c) (FitWords kind q)
    buffer_fit None hand c forest known living fit = tt
    buffer_fit (Some n) hand c forest known living fit =
        let one = one_same n n refl in
        let x = lives kind c n (living n (omega arith)) in
        let is = known.1 x.0 x.1 in
        subst (λ (ss : List Slot). IfGot (copied_into kind s ty w copy ss c) (FitWords kind q)) (sym (ap slots_if x.1))
        (into_fit x.0.slots is.wide hand c forest (
          is.slots,
          λ k lt. let e = times-owned_list kind (Some x.0) k in
              let f = ap (λ xs. times xs k) (owned_is kind p x.0 is.kinds) in
              let l = owned_held kind c n k x.0 x.1 in
              let h = forest.held k in
              omega arith,
        ) fit)

  pub copied_fit : (s : Setting) (p : Parts) (bound : ℕ) → Laid kind bound p → Named kind p → (ws : List ℕ) → length ws ≡ width p → (hand : ℕ → ℕ) (c : Content) → IsForest kind hand c → Known kind c p ws
      → ((k : ℕ) → 0 < times (owned_of p ws) k → 0 < alive c k) → AreFit kind c → IfGot (copied s p ws c) (FitWords kind p)
  copied_fit s Single bound laid named ws wide hand c forest known living fit = (fit, λ u m q k e there. absurd (value_owner k))
  copied_fit s Raw bound laid named ws wide hand c forest known living fit = (fit, λ u m q k e there. absurd (pointer_owner u k))
  copied_fit s Iterates bound laid named ws wide hand c forest known living fit = (fit, λ u m q k e there. absurd (pointer_owner u k))
  copied_fit s Views bound laid named ws wide hand c forest known living fit = (fit, λ u m q k e there. absurd (pointer_owner u k))
  copied_fit s (Text ty) bound laid named ws wide hand c forest known living fit =
      buffer_fit s (Text ty) Single bound ty 1 (λ vs d. Got (vs, d)) (λ u. refl) laid.0 laid.1 named refl (λ vs w h d f k l. (came_none kind (kind.rank ty) h d f, w))
      (λ vs w h d f k l g. (g, λ u m q x e there. absurd (value_owner x))) (owned_in (slice_index ws 0)) hand c forest known living fit
  copied_fit s (Vector ty element) bound laid named ws wide hand c forest known living fit =
      buffer_fit s (Vector ty element) element bound ty (width element) (copied s element) (λ u. refl) laid.0 laid.1 named.0 refl (copied_came kind s element (kind.rank ty) laid.2)
      (copied_fit s element (kind.rank ty) laid.2 named.1) (owned_in (slice_index ws 0)) hand c forest known living fit
  copied_fit s (Unique ty target) bound laid named ws wide hand c forest known living fit = tt
  copied_fit s (Member first others) bound laid named ws wide hand c forest known living fit =
      joined_fit kind bound hand first others c (copied s first (take (width first) ws) c) (copied s others (drop (width first) ws))
      (got_both (copied s first (take (width first) ws) c) (CameWords kind bound hand first c) (FitWords kind first)
      (copied_came kind s first bound laid.0 (take (width first) ws) (length_front (width first) (width others) ws wide) hand c forest known.0 (living_front))
      (copied_fit s first bound laid.0 named.0 (take (width first) ws) (length_front (width first) (width others) ws wide) hand c forest known.0 (living_front) fit))
      (λ h v now fits came.
      let r = words_ready kind c v.1 hand forest came.0.births came.0.same others (drop (width first) ws) (known.1, living_back) in
      got_both (copied s others (drop (width first) ws) v.1) (CameWords kind bound h others v.1) (FitWords kind others)
      (copied_came kind s others bound laid.1 (drop (width first) ws) (length_back (width first) (width others) ws wide) h v.1 now r.0 r.1)
      (copied_fit s others bound laid.1 named.1 (drop (width first) ws) (length_back (width first) (width others) ws wide) h v.1 now r.0 r.1 fits))
    where
      living_front : (k : ℕ) → 0 < times (owned_of first (take (width first) ws)) k → 0 < alive c k
      living_front k lt = let e = times-append (owned_of first (take (width first) ws)) (owned_of others (drop (width first) ws)) k in living k (omega arith)

      living_back : (k : ℕ) → 0 < times (owned_of others (drop (width first) ws)) k → 0 < alive c k
      living_back k lt = let e = times-append (owned_of first (take (width first) ws)) (owned_of others (drop (width first) ws)) k in living k (omega arith)
  copied_fit s NoMember bound laid named ws wide hand c forest known living fit = (fit, λ u m q k e there. absurd (value_owner k))
