-- Values that are taken fit as before.
use Rattle.std.proofs.Common.{◌≡◌, ◌≢◌, ℕ, zero, suc, ◌+◌, ◌<◌, true, List, [], ◌∷◌, ◌++◌, length, Option, Some, None, refl, sym, ap, subst, ◌∙◌, arith, inl, inr, ◌⊎◌, ⊎_elim}
use Rattle.std.specs.Prelude.{◌&&◌, drop, slice_get, slice_index, take}
use Rattle.life_types.specs.declared.ty.TyId.{TyId}
use Rattle.life_store.specs.Cells.{at, at-set_same, at-set_other, at-unset_same, at-unset_other}
use Rattle.life_store.specs.Content.{Slot, Object, Content, with_rename, without, word_in}
use Rattle.life_store.specs.Held.{owned_in}
use Rattle.life_store.specs.Owners.{consumed, renamed, renamed_if, taken, taken_slots}
use Rattle.life_store.specs.Parts.{Parts, Single, Raw, Iterates, Views, Text, Vector, Unique, Member, NoMember, width}
use Rattle.life_store.proofs.CellLemmas.{none_some, some_same}
use Rattle.life_store.proofs.MapLemmas.{one_or_apart}
use Rattle.life_forest.specs.Kinds.{Kinds, owned_type}
use Rattle.life_store.specs.Kinds.{Owner, is_owner, kind_in}
use Rattle.life_forest.specs.Owned.{every, times, alive, alive_if, owns}
use Rattle.life_forest.specs.Forest.{IsForest}
use Rattle.life_forest.specs.Typed.{AreFit}
use Rattle.life_forest.specs.Values.{AllWide, listed, owned_of, owned_slots}
use Rattle.life_forest.proofs.Among.{Among, word_counted}
use Rattle.life_forest.proofs.Below.{empty_handed, lives}
use Rattle.life_forest.proofs.Beside.{taken_births}
use Rattle.life_forest.proofs.ByParts.{owned_words}
use Rattle.life_forest.proofs.Consuming.{out as freed, same_words}
use Rattle.life_forest.proofs.Counting.{one_same, one_there, times-append, times-words_list}
use Rattle.life_forest.proofs.Fitting.{Flat, KeepsTypes, fit_without_all, flat_later}
use Rattle.life_forest.proofs.FittingBirths.{FitWords, fit_born, flat_joined, flat_owner, unowned}
use Rattle.life_forest.proofs.FittingRows.{RowsFlat, rows_more, rows_none}
use Rattle.life_forest.proofs.FromTypes.{behind_back, behind_front}
use Rattle.life_forest.proofs.Lists.{length_front, length_back}
use Rattle.life_forest.proofs.Steps.{was_there}
use Rattle.life_forest.proofs.Taking.{Took, out, taken_took}
use Rattle.life_forest.proofs.Widths.{AllLong}

-- ---- what was there is as it was, or gone

renamed_at : (x : Option ℕ) (c : Content) (m : ℕ) → m < c.births → (at (renamed x c).1.objects m ≡ at c.objects m) ⊎ (at (renamed x c).1.objects m ≡ None)
renamed_at None c m lt = inl refl
renamed_at (Some n) c m lt = go (at c.objects n)
  where
    go : (x : Option Object) → (at (renamed_if x n c).1.objects m ≡ at c.objects m) ⊎ (at (renamed_if x n c).1.objects m ≡ None)
    go None = inl refl
    go (Some o) =
        let apart : c.births ≢ m = λ e. absurd (omega (arith, e, lt)) in
        one_or_apart n m
        (λ e. inr (at-set_other (without n c).objects c.births m o apart ∙ at-unset_same c.objects n m e))
        (λ ne. inl (at-set_other (without n c).objects c.births m o apart ∙ at-unset_other c.objects n m ne))

pub taken_at : (p : Parts) (ws : List ℕ) (c : Content) (m : ℕ) → m < c.births → (at (taken p ws c).1.objects m ≡ at c.objects m) ⊎ (at (taken p ws c).1.objects m ≡ None)
taken_at Single ws c m lt = inl refl
taken_at Raw ws c m lt = inl refl
taken_at Iterates ws c m lt = inl refl
taken_at Views ws c m lt = inl refl
taken_at (Text ty) ws c m lt = renamed_at (owned_in (slice_index ws 0)) c m lt
taken_at (Vector ty element) ws c m lt = inl refl
taken_at (Unique ty target) ws c m lt = inl refl
taken_at (Member first others) ws c m lt =
    ⊎_elim
    (λ b. ⊎_elim (λ a. inl (b ∙ a)) (λ a. inr (b ∙ a)) (taken_at first (take (width first) ws) c m lt))
    (λ b. inr b)
    (taken_at others (drop (width first) ws) (taken first (take (width first) ws) c).1 m (let h = taken_births first (take (width first) ws) c in omega arith))
taken_at NoMember ws c m lt = inl refl

pub taken_keeps : (kind : Kinds) (hand : ℕ → ℕ) (p : Parts) (ws : List ℕ) (c : Content) → IsForest kind hand c → KeepsTypes c (taken p ws c).1
taken_keeps kind hand p ws c forest m x q there is =
    ⊎_elim
    (λ a. ap (λ (o : Object). o.ty) (some_same (sym there ∙ sym a ∙ is)))
    (λ b. absurd (none_some (sym b ∙ is)))
    (taken_at p ws c m (forest.births m x there))

pub slots_at_all : (p : Parts) (ss : List Slot) (c : Content) (m : ℕ) → m < c.births → (at (taken_slots p ss c).1.objects m ≡ at c.objects m) ⊎ (at (taken_slots p ss c).1.objects m ≡ None)
slots_at_all p [] c m lt = inl refl
slots_at_all p (s ∷ ss) c m lt =
    ⊎_elim
    (λ b. ⊎_elim (λ a. inl (b ∙ a)) (λ a. inr (b ∙ a)) (taken_at p s.words c m lt))
    (λ b. inr b)
    (slots_at_all p ss (taken p s.words c).1 m (let h = taken_births p s.words c in omega arith))

pub slots_keep : (p : Parts) (ss : List Slot) (c : Content) (m : ℕ) → m < c.births → (x q : Object) → at c.objects m ≡ Some x → at (taken_slots p ss c).1.objects m ≡ Some q → x.ty ≡ q.ty
slots_keep p ss c m lt x q there is =
    ⊎_elim
    (λ a. ap (λ (o : Object). o.ty) (some_same (sym there ∙ sym a ∙ is)))
    (λ b. absurd (none_some (sym b ∙ is)))
    (slots_at_all p ss c m lt)

-- what the slots own is counted
pub among_counted : (p : Parts) (ss : List Slot) (u m : ℕ) → kind_in p u ≡ Owner → Among ss u m → 0 < times (owned_slots p ss) m
among_counted p [] u m k h = absurd h
among_counted p (s ∷ ss) u m k (inl e) =
    let a = word_counted (λ x. is_owner (kind_in p x) && true) s.words u m e (ap (λ x. is_owner x && true) k) in
    let b = times-words_list (λ x. is_owner (kind_in p x) && true) s.words m in
    let c = ap (λ (xs : List ℕ). times xs m) (owned_words p s.words) in
    let d = times-append (owned_of p s.words) (owned_slots p ss) m in
    omega arith
among_counted p (s ∷ ss) u m k (inr h) = let a = among_counted p ss u m k h in let d = times-append (owned_of p s.words) (owned_slots p ss) m in omega arith

abbrev pub SlotsFlat : Content → Parts → List Slot → Type 0
SlotsFlat c p ss = (u m : ℕ) (q : Object) → kind_in p u ≡ Owner → Among ss u m → at c.objects m ≡ Some q → owned_type p u ≡ Some q.ty

pub slots_later : (c d : Content) (p : Parts) (ss : List Slot) → ((m : ℕ) → 0 < times (owned_slots p ss) m → (x : Object) × (at c.objects m ≡ Some x)) → KeepsTypes c d → SlotsFlat c p ss → SlotsFlat d p ss
slots_later c d p ss living keeps flat u m q k e there =
    let x = living m (among_counted p ss u m k e) in
    flat u m x.0 k e x.1 ∙ ap Some (keeps m x.0 q x.1 there)

module _ (kind : Kinds) where
  -- ---- an object under a new number

  module _ (hand : ℕ → ℕ) (n : ℕ) (o : Object) (c : Content) (there : at c.objects n ≡ Some o) (forest : IsForest kind (λ k. times (n ∷ []) k + hand k) c) where
    fit_rename : AreFit kind c → AreFit kind (with_rename n o c)
    fit_rename fit =
        let h = fit n o there in
        fit_born kind (λ k. owns kind every o k + hand k) (without n c) (out kind hand n o c there forest) o (fit_without_all kind (n ∷ []) c fit)
        (record {
          owned = λ i u m q k e is. one_or_apart c.births m
              (λ s. absurd (unowned kind (λ k. times (n ∷ []) k + hand k) c forest o n i u o there k (e ∙ ap suc (sym s))))
              (λ nm. h.owned i u m q k e (was_there kind (n ∷ []) c m q (sym (at-set_other (without n c).objects c.births m o nm) ∙ is)));
          width = h.width;
          slots = h.slots;
        })

  renamed_fit : (hand : ℕ → ℕ) (ty : TyId) (x : Option ℕ) (c : Content) → IsForest kind (λ k. times (listed x) k + hand k) c → AreFit kind c → ((m : ℕ) (q : Object) → 0 < times (listed x) m → at c.objects m ≡ Some q → q.ty ≡ ty)
      → FitWords kind (Text ty) (renamed x c)
  renamed_fit hand ty None c forest fit types = (fit, λ u m q k e there. absurd (no_word u m e))
    where
      no_word : (u m : ℕ) → slice_index (0 ∷ []) u ≡ suc m → ⊥
      no_word zero m e = omega (arith, e)
      no_word (suc u) m e = omega (arith, e)
  renamed_fit hand ty (Some n) c forest fit types = go (at c.objects n) refl
    where
      go : (x : Option Object) → at c.objects n ≡ x → FitWords kind (Text ty) (renamed_if x n c)
      go None e = let h = forest.held n in let s = one_same n n refl in let z : alive c n ≡ 0 = ap alive_if e in absurd (omega arith)
      go (Some o) e = (
        fit_rename hand n o c e forest fit,
        flat_owner (with_rename n o c) (Text ty) ty c.births o (λ u. refl) (at-set_same (without n c).objects c.births c.births o refl) (types n o (let s = one_same n n refl in omega arith) e),
      )

  flat_first : (c : Content) (p : Parts) (ty : TyId) (x : ℕ) (ws : List ℕ) → slice_index ws 0 ≡ x → kind_in p 0 ≡ Owner → owned_type p 0 ≡ Some ty → Flat c p ws → (m : ℕ) (q : Object) → 0 < times (listed (owned_in x)) m → at c.objects m ≡ Some q → q.ty ≡ ty
  flat_first c p ty zero ws e k names flat m q lt there = absurd (omega arith)
  flat_first c p ty (suc n) ws e k names flat m q lt there =
      let s = one_there n m (omega arith) in
      sym (some_ty (sym names ∙ flat 0 m q k (e ∙ ap suc s) there))
    where
      some_ty : {a b : TyId} → Some a ≡ Some b → a ≡ b
      some_ty h = cc

  pub taken_fit : (p : Parts) (ws : List ℕ) → length ws ≡ width p → (hand : ℕ → ℕ) (c : Content) → IsForest kind (λ k. times (owned_of p ws) k + hand k) c → AreFit kind c → Flat c p ws → FitWords kind p (taken p ws c)
  taken_fit Single ws wide hand c forest fit flat = (fit, flat)
  taken_fit Raw ws wide hand c forest fit flat = (fit, flat)
  taken_fit Iterates ws wide hand c forest fit flat = (fit, flat)
  taken_fit Views ws wide hand c forest fit flat = (fit, flat)
  taken_fit (Text ty) ws wide hand c forest fit flat = renamed_fit hand ty (owned_in (slice_index ws 0)) c forest fit (flat_first c (Text ty) ty (slice_index ws 0) ws refl refl refl flat)
  taken_fit (Vector ty element) ws wide hand c forest fit flat = (fit, flat)
  taken_fit (Unique ty target) ws wide hand c forest fit flat = (fit, flat)
  taken_fit (Member first others) ws wide hand c forest fit flat =
      both
      (taken_took kind first (take (width first) ws) front_wide (λ k. times (owned_of others (drop (width first) ws)) k + hand k) c apart)
      (taken_fit first (take (width first) ws) front_wide (λ k. times (owned_of others (drop (width first) ws)) k + hand k) c apart fit
      (λ u m q k e there. let r = behind_front (width first) (kind_in first) (kind_in others) (owned_type first) (owned_type others) ws u m e in sym r.1 ∙ flat u m q (r.0 ∙ k) r.2 there))
      (taken_fit others (drop (width first) ws) (length_back (width first) (width others) ws wide))
    where
      front_wide : length (take (width first) ws) ≡ width first
      front_wide = length_front (width first) (width others) ws wide

      apart : IsForest kind (λ k. times (owned_of first (take (width first) ws)) k + (times (owned_of others (drop (width first) ws)) k + hand k)) c
      apart =
          empty_handed kind (λ k. times (owned_of first (take (width first) ws) ++ owned_of others (drop (width first) ws)) k + hand k)
          (λ k. times (owned_of first (take (width first) ws)) k + (times (owned_of others (drop (width first) ws)) k + hand k)) c
          (λ k. let a = times-append (owned_of first (take (width first) ws)) (owned_of others (drop (width first) ws)) k in omega arith) forest

      both : Took kind (λ k. times (owned_of others (drop (width first) ws)) k + hand k) (owned_of first (take (width first) ws)) (owned_of first (taken first (take (width first) ws) c).0) c (taken first (take (width first) ws) c).1 × (length (taken first (take (width first) ws) c).0 ≡ width first)
          → FitWords kind first (taken first (take (width first) ws) c)
          → ((h : ℕ → ℕ) (d : Content) → IsForest kind (λ k. times (owned_of others (drop (width first) ws)) k + h k) d → AreFit kind d → Flat d others (drop (width first) ws) → FitWords kind others (taken others (drop (width first) ws) d))
          → FitWords kind (Member first others) (taken (Member first others) ws c)
      both a one two =
          let v = taken first (take (width first) ws) c in
          let now : IsForest kind (λ k. times (owned_of others (drop (width first) ws)) k + (times (owned_of first (taken first (take (width first) ws) c).0) k + hand k)) (taken first (take (width first) ws) c).1 =
          empty_handed kind (λ k. times (owned_of first (taken first (take (width first) ws) c).0) k + (times (owned_of others (drop (width first) ws)) k + hand k))
          (λ k. times (owned_of others (drop (width first) ws)) k + (times (owned_of first (taken first (take (width first) ws) c).0) k + hand k)) (taken first (take (width first) ws) c).1 (λ k. omega arith) a.0.forest in
          let back : Flat c others (drop (width first) ws) =
          λ u m q k e there. let r = behind_back (width first) (kind_in first) (kind_in others) (owned_type first) (owned_type others) ws u m e in sym r.2 ∙ flat r.0 m q (r.1 ∙ k) r.3 there in
          let b = two (λ k. times (owned_of first v.0) k + hand k) v.1 now one.0
          (flat_later c v.1 others (drop (width first) ws)
          (λ m lt. let h = apart.held m in lives kind c m (omega arith))
          (taken_keeps kind (λ k. times (owned_of first (take (width first) ws)) k + (times (owned_of others (drop (width first) ws)) k + hand k)) first (take (width first) ws) c apart) back) in (
            b.0,
            flat_joined (taken others (drop (width first) ws) v.1).1 first others v.0 (taken others (drop (width first) ws) v.1).0 a.1
                (flat_later v.1 (taken others (drop (width first) ws) v.1).1 first v.0 (λ m lt. let h = a.0.forest.held m in lives kind v.1 m (omega arith))
                (taken_keeps kind (λ k. times (owned_of others (drop (width first) ws)) k + (times (owned_of first v.0) k + hand k)) others (drop (width first) ws) v.1 now) one.1)
                b.1,
          )
  taken_fit NoMember ws wide hand c forest fit flat = (fit, flat)

  -- .. and those of slots
  pub slots_fit : (p : Parts) (ss : List Slot) → AllWide (width p) ss → (hand : ℕ → ℕ) (c : Content) → IsForest kind (λ k. times (owned_slots p ss) k + hand k) c → AreFit kind c → SlotsFlat c p ss
      → AreFit kind (taken_slots p ss c).1 × RowsFlat (taken_slots p ss c).1 p (taken_slots p ss c).0 × AllLong (width p) (taken_slots p ss c).0 × KeepsTypes c (taken_slots p ss c).1
  slots_fit p [] wide hand c forest fit flat = (fit, rows_none c p, tt, λ m x q there is. ap (λ (o : Object). o.ty) (some_same (sym there ∙ is)))
  slots_fit p (s ∷ ss) wide hand c forest fit flat =
      let apart : IsForest kind (λ k. times (owned_of p s.words) k + (times (owned_slots p ss) k + hand k)) c =
      empty_handed kind (λ k. times (owned_of p s.words ++ owned_slots p ss) k + hand k) (λ k. times (owned_of p s.words) k + (times (owned_slots p ss) k + hand k)) c
      (λ k. let a = times-append (owned_of p s.words) (owned_slots p ss) k in omega arith) forest in
      let a = taken_took kind p s.words wide.0 (λ k. times (owned_slots p ss) k + hand k) c apart in
      let f = taken_fit p s.words wide.0 (λ k. times (owned_slots p ss) k + hand k) c apart fit (λ u m q k e there. flat u m q k (inl e) there) in
      let now : IsForest kind (λ k. times (owned_slots p ss) k + (times (owned_of p (taken p s.words c).0) k + hand k)) (taken p s.words c).1 =
      empty_handed kind (λ k. times (owned_of p (taken p s.words c).0) k + (times (owned_slots p ss) k + hand k)) (λ k. times (owned_slots p ss) k + (times (owned_of p (taken p s.words c).0) k + hand k)) (taken p s.words c).1
      (λ k. omega arith) a.0.forest in
      let first = taken_keeps kind (λ k. times (owned_of p s.words) k + (times (owned_slots p ss) k + hand k)) p s.words c apart in
      let later = slots_later c (taken p s.words c).1 p ss (λ m lt. let h = apart.held m in lives kind c m (omega arith)) first (λ u m q k e there. flat u m q k (inr e) there) in
      let b = slots_fit p ss wide.1 (λ k. times (owned_of p (taken p s.words c).0) k + hand k) (taken p s.words c).1 now f.0 later in (
        b.0,
        rows_more (taken_slots p ss (taken p s.words c).1).1 p (taken p s.words c).0 (taken_slots p ss (taken p s.words c).1).0
            (flat_later (taken p s.words c).1 (taken_slots p ss (taken p s.words c).1).1 p (taken p s.words c).0 (λ m lt. let h = a.0.forest.held m in lives kind (taken p s.words c).1 m (omega arith)) b.3 f.1)
            b.1,
        (a.1, b.2),
        λ m x q there is. slots_keep p (s ∷ ss) c m (apart.births m x there) x q there is,
      )

  -- ---- an object that gives its value over

  module _ (p : Parts) (n : ℕ) (c : Content) (hand : ℕ → ℕ) (o : Object) (s : Slot) (there : at c.objects n ≡ Some o) (one_slot : o.slots ≡ s ∷ []) (kinds : (u : ℕ) → kind.word o.ty u ≡ kind_in p u)
      (names : (u : ℕ) → kind.owned o.ty u ≡ owned_type p u) (wide : length s.words ≡ width p) (forest : IsForest kind (λ k. times (n ∷ []) k + hand k) c) where
    pub value_flat : AreFit kind c → Flat (without n c) p s.words
    value_flat fit u m q k e is =
        sym (names u)
        ∙ (fit n o there).owned 0 u m q (kinds u ∙ k) (ap (λ (ss : List Slot). word_in (slice_get ss 0) u) one_slot ∙ e) (was_there kind (n ∷ []) c m q is)

    pub consumed_fit : AreFit kind c → FitWords kind p (consumed p n c)
    consumed_fit fit =
        subst (FitWords kind p) (sym (same_words kind p n c hand o s there one_slot kinds wide forest))
        (taken_fit p s.words wide hand (without n c) (freed kind p n c hand o s there one_slot kinds wide forest) (fit_without_all kind (n ∷ []) c fit) (value_flat fit))
