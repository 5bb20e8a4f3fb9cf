-- The end of the temporaries that were made since a state: each is there, and behind it those that were pending before are again.
use Rattle.std.proofs.Common.{◌≡◌, ◌<◌, ◌⊎◌, inl, inr, ℕ, false, List, ◌++◌, drop, length, reverse, slice_get, take, Some, None, sym, ap, ◌∙◌, subst, arith}
use Rattle.std.proofs.lemmas.Option.{slice_get_within}
use Rattle.life_types.specs.Types.{Types}
use Rattle.life_types.specs.declared.place.Place.{Place}
use Rattle.life_core.specs.Function.{Function}
use Rattle.life_core.specs.declared.program.Local.{Local}
use Rattle.life_proper.specs.Knowing.{known_at}
use Rattle.life_proper.specs.declared.known.Known.{Known}
use Rattle.life_proper.specs.declared.known.Known.TheVariants as known
use Rattle.life_writer.specs.Variables.{end_pending}
use Rattle.life_writer.specs.Writing.{State}
use Rattle.life_elab_laws.proofs.Among.{Among, Apart, all_among, among_drop, among_or, among_parts, among_reverse, among_take, apart_reverse, ascend_apart, ascend_drop, parts_apart, reverse_among}
use Rattle.life_elab_laws.proofs.EndSteps.{IsEnded, ended, ends_here}
use Rattle.life_elab_laws.proofs.Ending.{blank_beside, blank_in, blank_length, ends_there, set_blank}
use Rattle.life_elab_laws.proofs.Falling.{Falls}
use Rattle.life_elab_laws.proofs.Fronts.{IsFront, front_itself, front_taken}
use Rattle.life_elab_laws.proofs.Growing.{Begins, Grows}
use Rattle.life_elab_laws.proofs.Making.{Alive, Keeps}
use Rattle.life_elab_laws.proofs.PendingTemporaries.{ArePending, IsTemporary, pending_later, temporary_later}
use Rattle.life_elab_laws.proofs.Shaping.{IsFine}
use Rattle.life_elab_laws.proofs.TemporaryEnds.{TemporariesEnd}
use Rattle.life_elab_laws.proofs.Shaped.{is_passing}

module _ (types : Types) (texts : ℕ) (fs : List Function) (f : Function) (s w : State) (grown : Grows s w) (low : ℕ) (before : ArePending low s) (place : Place) where
  abbrev n : ℕ
  n = length s.pending

  -- those that end, the last first
  abbrev pub ending : List ℕ
  ending = reverse (drop n w.pending)

  pends : ArePending low w
  pends = grown.pends _ before

  pub ends_level : take n w.pending ≡ s.pending
  ends_level = front_taken s.pending w.pending grown.pending

  added : (y : ℕ) → Among y ending → Among y (drop n w.pending)
  added y m = reverse_among (drop n w.pending) y m

  -- ---- the state behind it

  pub ending_is : IsEnded types texts fs f ending place w
  ending_is = ended types texts fs f ending place w

  abbrev pub behind : State
  behind = record w { code = w.code ++ ending_is.code; pending = take n w.pending }

  pub behind_is : end_pending n place w ≡ behind
  behind_is = ap (λ (r : State). record r { pending = take n w.pending }) ending_is.written

  pub behind_grows : Grows s behind
  behind_grows = record {
    locals = grown.locals;
    types = grown.types;
    count = grown.count;
    variables = grown.variables;
    living = grown.living;
    pending = subst (IsFront s.pending) (sym ends_level) (front_itself s.pending);
    fresh = λ y m lt. subst (Among y) ends_level m;
    pends = λ low p. pending_later low s behind grown.locals grown.types grown.living ends_level p;
    outside = grown.outside;
  }

  -- ---- what is known there

  no_older : (y : ℕ) → y < length s.locals → Among y ending → ⊥
  no_older y lt m = parts_apart n 0 w.pending y pends.ascend (subst (Among y) (sym ends_level) (grown.fresh y (among_drop n w.pending y (added y m)) lt)) (added y m)

  pub ends_keep : (k : List Known) → Keeps f (length s.locals) None k (set_blank ending k)
  ends_keep k = record { sized = blank_length ending k; below = λ y lt b. blank_beside ending k y (no_older y lt) }

  pub ends_alive : (k : List Known) → Alive f w k → Alive f behind (set_blank ending k)
  ends_alive k h = record {
    sized = blank_length ending k ∙ h.sized;
    living = λ y c. blank_beside ending k y (λ m. pends.beside y (among_drop n w.pending y (added y m)) c) ∙ h.living y c;
    pending = λ y m. blank_beside ending k y (λ g. parts_apart n 0 w.pending y pends.ascend m (added y g)) ∙ h.pending y (among_take n w.pending y m);
    blank = gone;
  }
    where
      gone : (y : ℕ) (l : Local) → slice_get f.locals y ≡ Some l → is_passing l ≡ false → (Among y w.living → ⊥) → (Among y (take n w.pending) → ⊥) → known_at (set_blank ending k) y ≡ known.Blank
      gone y l there lasts a b = go (among_or y (drop n w.pending))
        where
          lt : y < length k
          lt = omega (arith, h.sized, slice_get_within f.locals y l there)

          go : Among y (drop n w.pending) ⊎ (Among y (drop n w.pending) → ⊥) → known_at (set_blank ending k) y ≡ known.Blank
          go (inl m) = blank_in ending k y lt (among_reverse (drop n w.pending) y m)
          go (inr none) =
              blank_beside ending k y (λ g. none (added y g))
              ∙ h.blank y l there lasts a (λ g. elim (among_parts n w.pending y g) [ inl m ↦ b m | inr m ↦ none m ])

  -- ---- what ends

  pub ends_pending : (y : ℕ) → Among y ending → Among y w.pending
  ends_pending y m = among_drop n w.pending y (added y m)

  pub ends_apart : Apart ending
  ends_apart = apart_reverse (drop n w.pending) (ascend_apart 0 (drop n w.pending) (ascend_drop n 0 w.pending pends.ascend))

  pub ends_below : (y : ℕ) → Among y ending → y < length w.locals
  ends_below y m = let is = pends.each y (ends_pending y m) in slice_get_within w.locals y is.local is.there

  pub ends_temporary : Begins types f w → (y : ℕ) → Among y ending → IsTemporary low f.locals types.types y
  ends_temporary b y m = temporary_later _ w.locals f.locals w.types.types types.types y b.locals b.table (pends.each y (ends_pending y m))

  -- what is no temporary stays as it is
  pub ends_spare : Begins types f w → (k : List Known) (y : ℕ) → ((n : ℕ) → IsTemporary n f.locals types.types y → ⊥) → known_at (set_blank ending k) y ≡ known_at k y
  ends_spare b k y none = blank_beside ending k y (λ m. none low (ends_temporary b y m))

  -- ---- the instruction

  pub ends_fine : Begins types f w → TemporariesEnd types texts fs f low → IsFine types texts fs f ending_is.code
  ends_fine b can = ending_is.fine (all_among (ends_here types texts fs f) ending (λ y m. can y (ends_temporary b y m)))

  pub ends_fall : (k : List Known) → Alive f w k → Falls types f ending_is.code k (set_blank ending k)
  ends_fall k h = ending_is.falls k (ends_there ending k ends_apart (λ y m. h.pending y (ends_pending y m)))
