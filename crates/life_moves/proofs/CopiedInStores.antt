-- In the store of a run, a value whose copies are all made before the first word is written comes to another place as the meaning copies it.
use Rattle.std.proofs.Common.{◌≡◌, ℕ, zero, suc, ◌+◌, ◌≤◌, ◌<◌, List, [], ◌∷◌, length, take, drop, Option, Some, sym, ap, ◌∙◌, arith}
use Rattle.std.proofs.lemmas.List.{append-nil, length-take-le}
use Rattle.std.specs.Prelude.{slice_get, slice_index}
use Rattle.life_types.specs.Trees.{IsOrdered}
use Rattle.life_types.specs.Types.{Types}
use Rattle.life_types.specs.declared.ty.TyId.{TyId}
use Rattle.life_store.specs.Cells.{at}
use Rattle.life_store.specs.Content.{Object, Content, with_object, word_at}
use Rattle.life_store.specs.Doing.{replaced}
use Rattle.life_store.specs.Effects.{Setting, Got}
use Rattle.life_store.specs.Held.{slots_if, with_words, words_at, words_if, wrote_if}
use Rattle.life_store.specs.Owners.{copied, ended, Words}
use Rattle.life_store.specs.Parts.{Parts, parts_at, width}
use Rattle.life_store.specs.Places.{Spot as Place, spot_words, wrote_spot}
use Rattle.life_forest.specs.Kinds.{kinds_of, rank_of}
use Rattle.life_forest.specs.Owned.{alive, alive_if, times}
use Rattle.life_forest.specs.Typed.{IsStore}
use Rattle.life_forest.specs.Values.{owned_of, AllWide}
use Rattle.life_forest.specs.Within.{LiesWithin}
use Rattle.life_forest.proofs.Coming.{CameWords, IfGot}
use Rattle.life_forest.proofs.Copying.{copied_came}
use Rattle.life_forest.proofs.FittingBirths.{FitWords, got_both}
use Rattle.life_forest.proofs.FittingCopies.{copied_fit}
use Rattle.life_forest.proofs.Laying.{laid_at, made_at, named_at}
use Rattle.life_forest.proofs.Spots.{spot_flat, spot_known, spot_lives}
use Rattle.life_values.specs.Copied.{copied_number}
use Rattle.life_moves.specs.CopiedTo.{copied_over, copied_then, overwritten}
use Rattle.life_values.specs.Copyable.{HasCopy}
use Rattle.life_values.specs.Ended.{ended_number}
use Rattle.life_values.specs.Layouts.{flat, owner_words, owners_at, AreLaid}
use Rattle.life_values.specs.Zeroed.{zeroed}
use Rattle.life_values.specs.declared.layout.Layout.{Layout}
use Rattle.life_values.proofs.Attempts.{then_alike}
use Rattle.life_values.proofs.CopiedKept.{keeps_all}
use Rattle.life_values.proofs.CopiedMeant.{deeper, number_meant}
use Rattle.life_moves.proofs.CopiedThen.{all_then, index_drop, index_take, owners_written}
use Rattle.life_values.proofs.CopyableFromTypes.{copyable_from}
use Rattle.life_values.proofs.EmptiedMeant.{ended_beside}
use Rattle.life_moves.proofs.EndedSource.{after, after_is, IsSource}
use Rattle.life_moves.proofs.EndedSource.{source_then as source_stays}
use Rattle.life_values.proofs.Flat.{owner_words_own}
use Rattle.life_values.proofs.OneOwner.{owners_by_parts}
use Rattle.life_moves.proofs.OwnersOver.{agree_by, agree_then, all_over, copied_agree, owners_with, written_with, zeroed_over, Agree}
use Rattle.life_values.proofs.PoppedMeant.{wide_slot}
use Rattle.life_values.proofs.ReadWords.{in_slot}
use Rattle.life_moves.proofs.ReplacedInStores.{known, place}
use Rattle.life_values.proofs.Zeros.{wrote_with}

-- ---- words of a slot

cut_long : (xs : List ℕ) (w k : ℕ) → w + k ≤ length xs → length (take k (drop w xs)) ≡ k
cut_long xs zero k le = length-take-le k xs (omega (arith, le))
cut_long [] (suc w) k le = absurd (omega (arith, le))
cut_long (x ∷ xs) (suc w) k le = cut_long xs w k (omega (arith, le))

module _ (c : Content) (n i w k : ℕ) (x : Object) (there : at c.objects n ≡ Some x) where
  count_at : AllWide x.width x.slots → i < length x.slots → w + k ≤ x.width → length (words_at c n i w k) ≡ k
  count_at wide slot fits =
      let l = wide_slot x.width x.slots i wide slot in
      ap (λ (y : Option Object). length (take k (drop w (words_if (slice_get (slots_if y) i))))) there
      ∙ cut_long (words_if (slice_get x.slots i)) w k (omega (arith, l, fits))

  index_at : (u : ℕ) → u < k → slice_index (words_at c n i w k) u ≡ word_at x i (w + u)
  index_at u lt =
      ap (λ (y : Option Object). slice_index (take k (drop w (words_if (slice_get (slots_if y) i)))) u) there
      ∙ index_take k (drop w (words_if (slice_get x.slots i))) u lt
      ∙ index_drop w (words_if (slice_get x.slots i)) u
      ∙ sym (in_slot x.slots i (w + u))

module _ (types : Types) (ordered : IsOrdered types) (hand : ℕ → ℕ) (m : Content) (store : IsStore types hand m) (layouts : List Layout) (laid : AreLaid types layouts) (depth : ℕ) (ty : TyId) (has : HasCopy (parts_at types ty)) (low : rank_of types ty ≤ depth)
    (nf f v : ℕ) (source : Object) (source_there : at m.objects nf ≡ Some source) (source_within : LiesWithin types source.ty v ty) (source_slot : f < length source.slots)
    (n i w : ℕ) (o : Object) (there : at m.objects n ≡ Some o) (within : LiesWithin types o.ty w ty) (slot : i < length o.slots) (deep : rank_of types o.ty ≤ depth) where
  abbrev p : Parts
  p = parts_at types ty

  abbrev us : List ℕ
  us = owner_words (flat 0 (parts_at types ty))

  abbrev from : Place
  from = record { object = nf; index = f; word = v }

  abbrev to : Place
  to = record { object = n; index = i; word = w }

  abbrev ws : List ℕ
  ws = words_at m nf f v (width (parts_at types ty))

  abbrev go : Content → Content
  go = overwritten (ended_number (kinds_of types) depth) from to (width (parts_at types ty)) (owner_words (flat 0 (parts_at types ty)))

  source_fits : v + width p ≤ source.width
  source_fits = let a = source_within.fits in let e = (store.fit nf source source_there).width in omega (arith, a, e)

  ws_long : length ws ≡ width p
  ws_long = count_at m nf f v (width p) source source_there (store.fit nf source source_there).slots source_slot source_fits

  -- what is copied, with types
  abbrev Good : Words → Type 0
  Good a = CameWords (kinds_of types) (rank_of types ty) hand p m a × (FitWords (kinds_of types) p a × Agree p a.0 ws)

  living : (k : ℕ) → 0 < times (owned_of p ws) k → 0 < alive m k
  living k lt =
      let x = spot_lives types ordered hand m store nf f v ty source source_there source_within source_slot k lt in
      let a = ap alive_if x.1 in
      omega (arith, a)

  goods : (s : Setting) → IfGot (copied s p ws m) Good
  goods s =
      let known_ws = spot_known types ordered hand m store nf f v ty source source_there source_within source_slot in
      got_both (copied s p ws m) (CameWords (kinds_of types) (rank_of types ty) hand p m) (λ a. FitWords (kinds_of types) p a × Agree p a.0 ws)
      (copied_came (kinds_of types) s p (rank_of types ty) (laid_at types ordered ty) ws ws_long hand m store.forest known_ws living)
      (got_both (copied s p ws m) (FitWords (kinds_of types) p) (λ a. Agree p a.0 ws)
      (copied_fit (kinds_of types) s p (rank_of types ty) (laid_at types ordered ty) (named_at types ordered ty) ws ws_long hand m store.forest known_ws living store.fit)
      (copied_agree s p ws m ws_long))

  module _ (a : Words) (h : Good a) where
    abbrev c : Content
    c = a.1

    abbrev hand_c : ℕ → ℕ
    hand_c k = times (owned_of p a.0) k + hand k

    store_c : IsStore types hand_c c
    store_c = record { forest = h.0.0.forest; fit = h.1.0.0 }

    there_c : at c.objects n ≡ Some o
    there_c = h.0.0.same n (store.forest.births n o there) ∙ there

    source_c : at c.objects nf ≡ Some source
    source_c = h.0.0.same nf (store.forest.births nf source source_there) ∙ source_there

    abbrev rest : Content
    rest = ended p (words_at c n i w (width p)) c

    abbrev bare : Object
    bare = zeroed i w us o

    abbrev then_content : Content
    then_content = after types ordered hand_c c store_c ty nf f v source source_c source_within n i w o there_c within slot depth deep

    source_then : IsSource types ordered hand_c c store_c ty nf f v source source_c source_within n i w o there_c within slot depth deep then_content
    source_then = source_stays types ordered hand_c c store_c ty nf f v source source_c source_within n i w o there_c within slot depth deep

    abbrev raw : List ℕ
    raw = words_at then_content nf f v (width p)

    raw_long : length raw ≡ width p
    raw_long =
        let x = source_then in
        count_at then_content nf f v (width p) x.object x.found x.wide (let k = x.count in let l = source_slot in omega (arith, k, l)) (let k = x.long in let l = source_fits in omega (arith, k, l))

    agree : Agree p a.0 raw
    agree =
        agree_then p a.0 ws raw h.1.1
        (agree_by p ws raw ws_long raw_long
        (λ u lt other.
        index_at m nf f v (width p) source source_there u lt
        ∙ sym (source_then.words u lt other)
        ∙ sym (index_at then_content nf f v (width p) source_then.object source_then.found u lt)))

    pub put_over : owners_written n i w p a.0 (go a.1) ≡ replaced p to a
    put_over =
        ap (λ (e : Content). owners_written n i w p a.0 (wrote_spot to (spot_words e from (width p)) e)) (after_is types ordered hand_c c store_c ty nf f v source source_c source_within n i w o there_c within slot depth deep)
        ∙ ap (owners_written n i w p a.0) (wrote_with n i w raw bare rest)
        ∙ written_with n i w p a.0 (with_words i w raw bare) rest
        ∙ ap (λ (x : Object). with_object n (owners_with i w p a.0 x) rest)
        (zeroed_over i w us raw o (λ j u e. let r = owner_words_own p 0 j u e in let x = r.is in let l = r.within in let k = raw_long in omega (arith, x, l, k)))
        ∙ ap (λ (x : Object). with_object n x rest) (all_over i w p a.0 raw o agree)
        ∙ ap (λ (x : Option Object). wrote_if x n i w a.0 rest)
        (sym (ended_beside (kinds_of types) depth n i hand_c w p c o there_c store_c.forest deep (place types ordered hand_c c store_c n i w ty o there_c within slot depth deep)
        (known types ordered hand_c c store_c n i w ty o there_c within slot depth deep)))

  pub then_meant : (s : Setting) → copied_then (copied_number s (owners_at layouts) depth) from to go us m ≡ copied_over s p from to m
  then_meant s =
      let z : w + 0 ≡ w = omega arith in
      ap (λ xs. copied_then (copied_number s (owners_at layouts) depth) from to go xs m) (sym (append-nil us))
      ∙ all_then s types (owners_at layouts) m depth (number_meant s types (owners_at layouts) (owners_by_parts types layouts laid) m depth) from to source source_there (store.forest.births nf source source_there) go p 0 [] ws m (keeps_all m)
      (ws_long, λ u lt. let e : v + (0 + u) ≡ v + u = omega arith in ap (word_at source f) e ∙ sym (index_at m nf f v (width p) source source_there u lt))
      (deeper types m (rank_of types ty) depth low p ws
      (copyable_from types ordered hand m store (rank_of types ty) p (made_at types ordered ty) has ws (spot_flat types ordered hand m store nf f v ty source source_there source_within source_slot)
      (spot_lives types ordered hand m store nf f v ty source source_there source_within source_slot)))
      ∙ then_alike (copied s p ws m) Good (λ a. Got (owners_written n i (w + 0) p a.0 (go a.1))) (λ a. Got (replaced p to a)) (goods s)
      (λ a h. ap (λ k. Got (owners_written n i k p a.0 (go a.1))) z ∙ ap (λ (d : Content). Got d) (put_over a h))
