-- Values that are taken: what they own is in the hand as before, a string's characters under a new number.
use Rattle.std.proofs.Common.{◌≡◌, ℕ, ◌+◌, ◌≤◌, ◌<◌, List, [], ◌∷◌, ◌++◌, length, Option, Some, None, refl, sym, ap, subst, ◌∙◌, arith, length-append}
use Rattle.std.specs.Prelude.{drop, slice_index, take}
use Rattle.life_types.specs.declared.ty.TyId.{TyId}
use Rattle.life_store.specs.Cells.{at, at-set_same, at-set_other, at-unset_other}
use Rattle.life_store.specs.Content.{Slot, Object, Content, with_rename, without}
use Rattle.life_store.specs.Held.{owned_in}
use Rattle.life_store.specs.Owners.{Words, renamed, renamed_if, taken, taken_slots}
use Rattle.life_store.specs.Parts.{Parts, Single, Raw, Iterates, Views, Text, Vector, Unique, Member, NoMember, width}
use Rattle.life_store.proofs.CellLemmas.{some_same}
use Rattle.life_store.proofs.MapLemmas.{one_or_apart}
use Rattle.life_forest.specs.Kinds.{Kinds}
use Rattle.life_forest.specs.Owned.{one, every, times, alive, alive_if, owns, owns_if, owns_at}
use Rattle.life_forest.specs.Forest.{IsForest, Foot, Beneath, whole, under, Touches, positive}
use Rattle.life_forest.specs.Values.{listed, owned_of, owned_slots, owned_rows, AllWide}
use Rattle.life_forest.proofs.Below.{empty_handed, is_positive, positive_is, lives}
use Rattle.life_forest.proofs.Counting.{one_same, one_there, times-append}
use Rattle.life_forest.proofs.Feet.{and_all, within_self, within_all}
use Rattle.life_forest.proofs.Lists.{take_front, drop_front, length_front, length_back}
use Rattle.life_forest.proofs.Single.{fits_there, forest_without, forest_birth, touches_birth}
use Rattle.life_forest.proofs.Steps.{alive_le, touches_self, touches_then, touches_without_all, was_there}

module _ (kind : Kinds) where
  -- one of these has the type
  pub record IsAmong (ns : List ℕ) (c : Content) (ty : TyId) : Type 0 where
    pub number : ℕ
    pub object : Object
    pub among : 0 < times ns number
    pub there : at c.objects number ≡ Some object
    pub same : object.ty ≡ ty

  -- from c to d what was in the hand became these others
  pub record Took (hand : ℕ → ℕ) (ns ms : List ℕ) (c d : Content) : Type 0 where
    pub births : c.births ≤ d.births
    pub clock : d.clock ≡ c.clock
    pub forest : IsForest kind (λ k. times ms k + hand k) d
    pub touches : (t : Foot) → ((n : ℕ) → 0 < times ns n → Beneath kind c t n) → Touches kind t c d
    pub types : (m : ℕ) (q : Object) → 0 < times ms m → at d.objects m ≡ Some q → IsAmong ns c q.ty
    pub others : (k : ℕ) → k < c.births → times ns k ≡ 0 → at d.objects k ≡ at c.objects k
    pub old : (k : ℕ) → 0 < times ms k → k < c.births → 0 < times ns k

  pub took_self : (hand : ℕ → ℕ) (ns : List ℕ) (c : Content) → IsForest kind (λ k. times ns k + hand k) c → Took hand ns ns c c
  took_self hand ns c forest = record {
    births = omega arith;
    clock = refl;
    forest = forest;
    touches = λ t low. touches_self kind t c;
    types = λ m q lt there. record { number = m; object = q; among = lt; there = there; same = refl };
    others = λ k lt z. refl;
    old = λ k more lt. more;
  }

  -- ---- an object under a new number

  module _ (hand : ℕ → ℕ) (n : ℕ) (o : Object) (c : Content) (there : at c.objects n ≡ Some o) (forest : IsForest kind (λ k. times (n ∷ []) k + hand k) c) where
    owned_now : (k : ℕ) → owns_at kind c every n k ≡ owns kind every o k
    owned_now k = ap (λ (x : Option Object). owns_if kind every x k) there

    pub out : IsForest kind (λ k. owns kind every o k + hand k) (without n c)
    out = forest_without kind (λ k. times (n ∷ []) k + hand k) (λ k. owns kind every o k + hand k) c n forest (λ k. let e = owned_now k in omega arith)

    rename_forest : IsForest kind (λ k. times (c.births ∷ []) k + hand k) (with_rename n o c)
    rename_forest =
        forest_birth kind (λ k. owns kind every o k + hand k) (λ k. times (c.births ∷ []) k + hand k) (without n c) o out
        (let f = fits_there kind (λ k. times (n ∷ []) k + hand k) c n o forest there in
        record { lower = λ m q own t. f.lower m q own (was_there kind (n ∷ []) c m q t); slots = f.slots; end = f.end })
        (λ k. omega arith)
        (λ k. omega arith)

    rename_touches : (t : Foot) → Beneath kind c t n → Touches kind t c (with_rename n o c)
    rename_touches t b =
        touches_then kind (λ k. times (n ∷ []) k + hand k) c forest t owned t (without n c) (with_rename n o c)
        (touches_without_all kind t c (n ∷ []) (λ k lt. subst (Beneath kind c t) (one_there n k (omega arith)) b))
        (touches_birth kind owned (without n c) o (λ k lt own. whole k (is_positive (owns kind every o k) own)))
        (within_self kind c t)
        (record {
          whole = λ k lt e. under n k b (let p = positive_is (owns kind every o k) e in let w = owned_now k in omega arith);
          part = λ m lt. (within_self kind c t).part m lt;
        })
      where
        owned : Foot
        owned = record { whole = λ k. positive (owns kind every o k); part = t.part }

    took_renamed : Took hand (n ∷ []) (c.births ∷ []) c (with_rename n o c)
    took_renamed = record {
      births = omega arith;
      clock = refl;
      forest = rename_forest;
      touches = λ t low. rename_touches t (let s = one_same n n refl in low n (omega arith));
      types = λ m q lt is.
          let e = one_there c.births m (omega arith) in
          let s = one_same n n refl in
          record { number = n; object = o; among = omega arith; there = there; same = ap (λ (x : Object). x.ty) (some_same (sym (at-set_same (without n c).objects c.births m o e) ∙ is)) };
      others = λ k lt z. at-set_other (without n c).objects c.births k o (λ e. absurd (omega (arith, e, lt))) ∙ at-unset_other c.objects n k (λ e. let s = one_same n k e in absurd (omega arith));
      old = λ k more lt. let e = one_there c.births k (omega arith) in absurd (omega arith);
    }

  -- ---- one after the other

  module _ (hand : ℕ → ℕ) (ns ms ns' ms' : List ℕ) (c d e : Content) (forest : IsForest kind (λ k. times ns k + (times ns' k + hand k)) c)
      (first : Took (λ k. times ns' k + hand k) ns ms c d) (second : Took (λ k. times ms k + hand k) ns' ms' d e) where
    born_before : (k : ℕ) → 0 < times ns' k → k < c.births
    born_before k lt = let h = forest.held k in let q = lives kind c k (omega arith) in forest.births k q.0 q.1

    not_first : (k : ℕ) → 0 < times ns' k → times ns k ≡ 0
    not_first k lt = let h = forest.held k in let a = alive_le kind c k in omega arith

    kept_second : (k : ℕ) → 0 < times ms k → at e.objects k ≡ at d.objects k
    kept_second k lt =
        let h = first.forest.held k in
        let a = alive_le kind d k in
        let q = lives kind d k (omega arith) in
        second.others k (first.forest.births k q.0 q.1) (omega arith)

    pub took_then : Took hand (ns ++ ns') (ms ++ ms') c e
    took_then = record {
      births = let a = first.births in let b = second.births in omega arith;
      clock = second.clock ∙ first.clock;
      forest = empty_handed kind (λ k. times ms' k + (times ms k + hand k)) (λ k. times (ms ++ ms') k + hand k) e (λ k. let a = times-append ms ms' k in omega arith) second.forest;
      touches = λ t low.
          touches_then kind (λ k. times ns k + (times ns' k + hand k)) c forest t (and_all t ns') t d e
          (first.touches t (λ n lt. let a = times-append ns ns' n in low n (omega arith)))
          (second.touches (and_all t ns') (λ n lt. whole n (is_positive (times ns' n) lt)))
          (within_self kind c t)
          (within_all kind c t ns' (λ n lt h. let a = times-append ns ns' n in low n (omega arith)));
      types = λ m q lt is. let a = times-append ms ms' m in
          one_or_apart (times ms m) 0
          (λ z. let x = second.types m q (omega arith) is in
          let more = x.among in
          let b = times-append ns ns' x.number in
          record { number = x.number; object = x.object; among = omega arith; there = sym (first.others x.number (born_before x.number more) (not_first x.number more)) ∙ x.there; same = x.same })
          (λ nz. let x = first.types m q (omega arith) (sym (kept_second m (omega arith)) ∙ is) in
          let more = x.among in
          let b = times-append ns ns' x.number in
          record { number = x.number; object = x.object; among = omega arith; there = x.there; same = x.same });
      others = λ k lt z. let a = times-append ns ns' k in let b = first.births in second.others k (omega arith) (omega arith) ∙ first.others k lt (omega arith);
      old = λ k more lt. let a = times-append ms ms' k in
          let b = times-append ns ns' k in
          let x = first.births in
          one_or_apart (times ms k) 0 (λ z. let h = second.old k (omega arith) (omega arith) in omega arith) (λ nz. let h = first.old k (omega arith) lt in omega arith);
    }

  -- ---- by the parts of a type

  abbrev TookWords : (ℕ → ℕ) → Parts → List ℕ → Content → Words → Type 0
  TookWords hand p ws c v = Took hand (owned_of p ws) (owned_of p v.0) c v.1 × (length v.0 ≡ width p)

  renamed_took : (hand : ℕ → ℕ) (ty : TyId) (x : Option ℕ) (c : Content) → IsForest kind (λ k. times (listed x) k + hand k) c
      → Took hand (listed x) (owned_of (Text ty) (renamed x c).0) c (renamed x c).1 × (length (renamed x c).0 ≡ 1)
  renamed_took hand ty None c forest = (took_self hand [] c forest, refl)
  renamed_took hand ty (Some n) c forest = go (at c.objects n) refl
    where
      go : (x : Option Object) → at c.objects n ≡ x → Took hand (n ∷ []) (owned_of (Text ty) (renamed_if x n c).0) c (renamed_if x n c).1 × (length (renamed_if x n c).0 ≡ 1)
      go None e = let h = forest.held n in let s = one_same n n refl in let z : alive c n ≡ 0 = ap alive_if e in absurd (omega arith)
      go (Some o) e = (took_renamed hand n o c e forest, refl)

  -- a struct's first member, and then the others
  module _ (first others : Parts) (ws : List ℕ) (hand : ℕ → ℕ) (c : Content) (forest : IsForest kind (λ k. times (owned_of (Member first others) ws) k + hand k) c) where
    abbrev front : List ℕ
    front = owned_of first (take (width first) ws)

    abbrev back : List ℕ
    back = owned_of others (drop (width first) ws)

    abbrev v : Words
    v = taken first (take (width first) ws) c

    member_took : ((h : ℕ → ℕ) (d : Content) → IsForest kind (λ k. times (owned_of first (take (width first) ws)) k + h k) d → TookWords h first (take (width first) ws) d (taken first (take (width first) ws) d))
        → ((h : ℕ → ℕ) (d : Content) → IsForest kind (λ k. times (owned_of others (drop (width first) ws)) k + h k) d → TookWords h others (drop (width first) ws) d (taken others (drop (width first) ws) d))
        → TookWords hand (Member first others) ws c (taken (Member first others) ws c)
    member_took one two = both (one (λ k. times back k + hand k) c apart)
      where
        apart : IsForest kind (λ k. times front k + (times back k + hand k)) c
        apart = empty_handed kind (λ k. times (front ++ back) k + hand k) (λ k. times front k + (times back k + hand k)) c (λ k. let a = times-append front back k in omega arith) forest

        both : TookWords (λ k. times back k + hand k) first (take (width first) ws) c (taken first (take (width first) ws) c) → TookWords hand (Member first others) ws c (taken (Member first others) ws c)
        both a =
            let w = taken others (drop (width first) ws) v.1 in
            let b = two (λ k. times (owned_of first v.0) k + hand k) v.1
            (empty_handed kind (λ k. times (owned_of first v.0) k + (times back k + hand k)) (λ k. times back k + (times (owned_of first v.0) k + hand k)) v.1 (λ k. omega arith) a.0.forest) in (
              subst (λ (xs : List ℕ). Took hand (front ++ back) (owned_of first xs ++ owned_of others (drop (width first) (v.0 ++ w.0))) c w.1) (sym (take_front (width first) v.0 w.0 a.1))
                  (subst (λ (ys : List ℕ). Took hand (front ++ back) (owned_of first v.0 ++ owned_of others ys) c w.1) (sym (drop_front (width first) v.0 w.0 a.1))
                  (took_then hand front (owned_of first v.0) back (owned_of others w.0) c v.1 w.1 apart a.0 b.0)),
              (let x = length-append v.0 w.0 in let y = a.1 in let z = b.1 in omega arith),
            )

  pub taken_took : (p : Parts) (ws : List ℕ) → length ws ≡ width p → (hand : ℕ → ℕ) (c : Content) → IsForest kind (λ k. times (owned_of p ws) k + hand k) c → TookWords hand p ws c (taken p ws c)
  taken_took Single ws wide hand c forest = (took_self hand [] c forest, wide)
  taken_took Raw ws wide hand c forest = (took_self hand [] c forest, wide)
  taken_took Iterates ws wide hand c forest = (took_self hand [] c forest, wide)
  taken_took Views ws wide hand c forest = (took_self hand [] c forest, wide)
  taken_took (Text ty) ws wide hand c forest = renamed_took hand ty (owned_in (slice_index ws 0)) c forest
  taken_took (Vector ty element) ws wide hand c forest = (took_self hand (listed (owned_in (slice_index ws 0))) c forest, wide)
  taken_took (Unique ty target) ws wide hand c forest = (took_self hand (listed (owned_in (slice_index ws 0))) c forest, wide)
  taken_took (Member first others) ws wide hand c forest =
      member_took first others ws hand c forest
      (taken_took first (take (width first) ws) (length_front (width first) (width others) ws wide))
      (taken_took others (drop (width first) ws) (length_back (width first) (width others) ws wide))
  taken_took NoMember ws wide hand c forest = (took_self hand [] c forest, wide)

  -- .. and of slots, from the first on
  pub slots_took : (p : Parts) (ss : List Slot) → AllWide (width p) ss → (hand : ℕ → ℕ) (c : Content) → IsForest kind (λ k. times (owned_slots p ss) k + hand k) c
      → Took hand (owned_slots p ss) (owned_rows p (taken_slots p ss c).0) c (taken_slots p ss c).1
  slots_took p [] wide hand c forest = took_self hand [] c forest
  slots_took p (s ∷ ss) wide hand c forest =
      let apart : IsForest kind (λ k. times (owned_of p s.words) k + (times (owned_slots p ss) k + hand k)) c =
      empty_handed kind (λ k. times (owned_of p s.words ++ owned_slots p ss) k + hand k) (λ k. times (owned_of p s.words) k + (times (owned_slots p ss) k + hand k)) c
      (λ k. let a = times-append (owned_of p s.words) (owned_slots p ss) k in omega arith) forest in
      let v = taken p s.words c in
      let a = taken_took p s.words wide.0 (λ k. times (owned_slots p ss) k + hand k) c apart in
      let b = slots_took p ss wide.1 (λ k. times (owned_of p (taken p s.words c).0) k + hand k) (taken p s.words c).1
      (empty_handed kind (λ k. times (owned_of p v.0) k + (times (owned_slots p ss) k + hand k)) (λ k. times (owned_slots p ss) k + (times (owned_of p v.0) k + hand k)) v.1 (λ k. omega arith) a.0.forest) in
      took_then hand (owned_of p s.words) (owned_of p v.0) (owned_slots p ss) (owned_rows p (taken_slots p ss v.1).0) c v.1 (taken_slots p ss v.1).1 apart a.0 b
