-- The words of a value come first, and then those that own are written over: in the end the words are those of the copy.
use Rattle.std.proofs.Common.{◌≡◌, ℕ, zero, suc, ◌+◌, ◌≤◌, ◌<◌, List, [], ◌∷◌, ◌++◌, length, take, drop, Some, refl, sym, ap, subst, ◌∙◌, arith}
use Rattle.std.proofs.lemmas.List.{nil_from_length, take-append-drop}
use Rattle.std.specs.Prelude.{slice_get, slice_index, slice_set}
use Rattle.life_store.specs.Content.{Slot, Object, Content, with_object, with_word}
use Rattle.life_store.specs.Effects.{Setting, Attempt, Got, GotTrap, GotFault, GotLost, then_get}
use Rattle.life_store.specs.Held.{with_words}
use Rattle.life_store.specs.Kinds.{Plain, Owner, Pointing, kind_in}
use Rattle.life_store.specs.Owners.{copied, Words}
use Rattle.life_store.specs.Parts.{Parts, Single, Raw, Iterates, Views, Text, Vector, Unique, Member, NoMember, width}
use Rattle.life_store.proofs.MapLemmas.{one_or_apart}
use Rattle.life_forest.proofs.Coming.{IfGot, got_then}
use Rattle.life_forest.proofs.Lists.{length_back, length_front}
use Rattle.life_forest.proofs.Puts.{put_in}
use Rattle.life_seen.proofs.WholePointers.{row_back, row_front}
use Rattle.life_values.specs.Zeroed.{zeroed}
use Rattle.life_values.proofs.CopiedKept.{copied_kept, IsCopy}
use Rattle.life_moves.proofs.CopiedThen.{drop_front, index_drop, index_take, owners_written, take_front}
use Rattle.life_values.proofs.Owners.{with_word_is}
use Rattle.life_values.proofs.ReadWords.{with_twice}
use Rattle.life_values.proofs.Zeros.{words-append, wrote_with}

-- beside owners the words are the same
abbrev pub Agree : Parts → List ℕ → List ℕ → Type 0
Agree (Text ty) vs xs = (length vs ≡ 1) × (length xs ≡ 1)
Agree (Vector ty element) vs xs = (length vs ≡ 1) × (length xs ≡ 1)
Agree (Unique ty target) vs xs = (length vs ≡ 1) × (length xs ≡ 1)
Agree (Member first others) vs xs =
    (length (take (width first) vs) ≡ width first) × (length (take (width first) xs) ≡ width first) × Agree first (take (width first) vs) (take (width first) xs) × Agree others (drop (width first) vs) (drop (width first) xs)
Agree _ vs xs = vs ≡ xs

-- ---- two words of an object

set_apart : (xs : List ℕ) (u v a b : ℕ) → u < v → slice_set (slice_set xs v b) u a ≡ slice_set (slice_set xs u a) v b
set_apart [] u v a b lt = refl
set_apart (x ∷ xs) u zero a b lt = absurd (omega (arith, lt))
set_apart (x ∷ xs) zero (suc v) a b lt = refl
set_apart (x ∷ xs) (suc u) (suc v) a b lt = ap (λ ys. x ∷ ys) (set_apart xs u v a b (omega (arith, lt)))

put_apart : (ss : List Slot) (i u v a b : ℕ) → u < v → put_in i u a (put_in i v b ss) ≡ put_in i v b (put_in i u a ss)
put_apart [] i u v a b lt = refl
put_apart (s ∷ ss) zero u v a b lt = ap (λ ws. record { words = ws; stamp = s.stamp } ∷ ss) (set_apart s.words u v a b lt)
put_apart (s ∷ ss) (suc i) u v a b lt = ap (λ (rest : List Slot). s ∷ rest) (put_apart ss i u v a b lt)

word_apart : (i u v a b : ℕ) (o : Object) → u < v → with_word i u a (with_word i v b o) ≡ with_word i v b (with_word i u a o)
word_apart i u v a b o lt =
    ap (with_word i u a) (with_word_is i v b o)
    ∙ with_word_is i u a (record o { slots = put_in i v b o.slots })
    ∙ ap (λ (ss : List Slot). record o { slots = ss }) (put_apart o.slots i u v a b lt)
    ∙ sym (with_word_is i v b (record o { slots = put_in i u a o.slots }))
    ∙ ap (with_word i v b) (sym (with_word_is i u a o))

words_apart : (i u a v : ℕ) (ys : List ℕ) (o : Object) → u < v → with_word i u a (with_words i v ys o) ≡ with_words i v ys (with_word i u a o)
words_apart i u a v [] o lt = refl
words_apart i u a v (y ∷ ys) o lt = words_apart i u a (v + 1) ys (with_word i v y o) (omega (arith, lt)) ∙ ap (with_words i (v + 1) ys) (word_apart i u v a y o lt)

-- ---- the owners of a value in an object

abbrev pub owners_with : (i w : ℕ) → Parts → List ℕ → Object → Object
owners_with i w (Text ty) vs o = with_word i w (slice_index vs 0) o
owners_with i w (Vector ty element) vs o = with_word i w (slice_index vs 0) o
owners_with i w (Unique ty target) vs o = with_word i w (slice_index vs 0) o
owners_with i w (Member first others) vs o = owners_with i w first (take (width first) vs) (owners_with i (w + width first) others (drop (width first) vs) o)
owners_with i w _ vs o = o

pub written_with : (n i w : ℕ) (p : Parts) (vs : List ℕ) (o : Object) (d : Content) → owners_written n i w p vs (with_object n o d) ≡ with_object n (owners_with i w p vs o) d
written_with n i w Single vs o d = refl
written_with n i w Raw vs o d = refl
written_with n i w Iterates vs o d = refl
written_with n i w Views vs o d = refl
written_with n i w (Text ty) vs o d = wrote_with n i w (slice_index vs 0 ∷ []) o d
written_with n i w (Vector ty element) vs o d = wrote_with n i w (slice_index vs 0 ∷ []) o d
written_with n i w (Unique ty target) vs o d = wrote_with n i w (slice_index vs 0 ∷ []) o d
written_with n i w (Member first others) vs o d =
    ap (owners_written n i w first (take (width first) vs)) (written_with n i (w + width first) others (drop (width first) vs) o d)
    ∙ written_with n i w first (take (width first) vs) (owners_with i (w + width first) others (drop (width first) vs) o) d
written_with n i w NoMember vs o d = refl

owners_apart : (i w : ℕ) (p : Parts) (vs : List ℕ) (v : ℕ) (ys : List ℕ) (o : Object) → w + width p ≤ v → owners_with i w p vs (with_words i v ys o) ≡ with_words i v ys (owners_with i w p vs o)
owners_apart i w Single vs v ys o le = refl
owners_apart i w Raw vs v ys o le = refl
owners_apart i w Iterates vs v ys o le = refl
owners_apart i w Views vs v ys o le = refl
owners_apart i w (Text ty) vs v ys o le = words_apart i w (slice_index vs 0) v ys o (omega (arith, le))
owners_apart i w (Vector ty element) vs v ys o le = words_apart i w (slice_index vs 0) v ys o (omega (arith, le))
owners_apart i w (Unique ty target) vs v ys o le = words_apart i w (slice_index vs 0) v ys o (omega (arith, le))
owners_apart i w (Member first others) vs v ys o le =
    ap (owners_with i w first (take (width first) vs)) (owners_apart i (w + width first) others (drop (width first) vs) v ys o (omega (arith, le)))
    ∙ owners_apart i w first (take (width first) vs) v ys (owners_with i (w + width first) others (drop (width first) vs) o) (omega (arith, le))
owners_apart i w NoMember vs v ys o le = refl

one_over : (i w : ℕ) (vs xs : List ℕ) (o : Object) → length vs ≡ 1 → length xs ≡ 1 → with_word i w (slice_index vs 0) (with_words i w xs o) ≡ with_words i w vs o
one_over i w [] xs o e f = absurd (omega (arith, e))
one_over i w (v ∷ []) [] o e f = absurd (omega (arith, f))
one_over i w (v ∷ []) (x ∷ []) o e f = with_twice i w x v o
one_over i w (v ∷ []) (x ∷ y ∷ xs) o e f = absurd (omega (arith, f))
one_over i w (v ∷ u ∷ vs) xs o e f = absurd (omega (arith, e))

-- all words of the value
pub all_over : (i w : ℕ) (p : Parts) (vs xs : List ℕ) (o : Object) → Agree p vs xs → owners_with i w p vs (with_words i w xs o) ≡ with_words i w vs o
all_over i w Single vs xs o same = ap (λ ys. with_words i w ys o) (sym same)
all_over i w Raw vs xs o same = ap (λ ys. with_words i w ys o) (sym same)
all_over i w Iterates vs xs o same = ap (λ ys. with_words i w ys o) (sym same)
all_over i w Views vs xs o same = ap (λ ys. with_words i w ys o) (sym same)
all_over i w (Text ty) vs xs o same = one_over i w vs xs o same.0 same.1
all_over i w (Vector ty element) vs xs o same = one_over i w vs xs o same.0 same.1
all_over i w (Unique ty target) vs xs o same = one_over i w vs xs o same.0 same.1
all_over i w (Member first others) vs xs o same =
    let front : Object = with_words i w (take (width first) xs) o in
    cut xs same.1
    ∙ ap (owners_with i w first (take (width first) vs)) (all_over i (w + width first) others (drop (width first) vs) (drop (width first) xs) front same.3)
    ∙ owners_apart i w first (take (width first) vs) (w + width first) (drop (width first) vs) front (omega arith)
    ∙ ap (with_words i (w + width first) (drop (width first) vs)) (all_over i w first (take (width first) vs) (take (width first) xs) o same.2)
    ∙ sym (joined vs same.0)
  where
    joined : (ys : List ℕ) → length (take (width first) ys) ≡ width first → with_words i w ys o ≡ with_words i (w + width first) (drop (width first) ys) (with_words i w (take (width first) ys) o)
    joined ys e =
        ap (λ zs. with_words i w zs o) (sym (take-append-drop (width first) ys))
        ∙ words-append i w (take (width first) ys) (drop (width first) ys) o
        ∙ ap (λ k. with_words i (w + k) (drop (width first) ys) (with_words i w (take (width first) ys) o)) e

    cut : (ys : List ℕ) → length (take (width first) ys) ≡ width first → owners_with i w (Member first others) vs (with_words i w ys o)
        ≡ owners_with i w first (take (width first) vs) (owners_with i (w + width first) others (drop (width first) vs) (with_words i (w + width first) (drop (width first) ys) (with_words i w (take (width first) ys) o)))
    cut ys e = ap (λ (x : Object). owners_with i w first (take (width first) vs) (owners_with i (w + width first) others (drop (width first) vs) x)) (joined ys e)
all_over i w NoMember vs xs o same = ap (λ ys. with_words i w ys o) (sym same)

-- ---- what is copied agrees with its source

-- word by word
same_lists : (xs ys : List ℕ) → length xs ≡ length ys → ((u : ℕ) → u < length xs → slice_index xs u ≡ slice_index ys u) → xs ≡ ys
same_lists [] [] e h = refl
same_lists [] (y ∷ ys) e h = absurd (omega (arith, e))
same_lists (x ∷ xs) [] e h = absurd (omega (arith, e))
same_lists (x ∷ xs) (y ∷ ys) e h = (λ j. h 0 (omega arith) j ∷ same_lists xs ys (omega (arith, e)) (λ u lt. h (suc u) (omega (arith, lt))) j)

abbrev IsOther : Parts → ℕ → Type 0
IsOther p u = kind_in p u ≡ Owner → ⊥

all_same : (p : Parts) (vs xs : List ℕ) → length vs ≡ width p → length xs ≡ width p → ((u : ℕ) → IsOther p u) → ((u : ℕ) → u < width p → IsOther p u → slice_index vs u ≡ slice_index xs u) → vs ≡ xs
all_same p vs xs e f other h = same_lists vs xs (e ∙ sym f) (λ u lt. h u (omega (arith, lt, e)) (other u))

plain_other : (u : ℕ) → Plain ≡ Owner → ⊥
plain_other u e = cc

pointing_other : (u : ℕ) → Pointing u ≡ Owner → ⊥
pointing_other u e = cc

pub agree_by : (p : Parts) (vs xs : List ℕ) → length vs ≡ width p → length xs ≡ width p → ((u : ℕ) → u < width p → IsOther p u → slice_index vs u ≡ slice_index xs u) → Agree p vs xs
agree_by Single vs xs e f h = all_same Single vs xs e f plain_other h
agree_by Raw vs xs e f h = all_same Raw vs xs e f pointing_other h
agree_by Iterates vs xs e f h = all_same Iterates vs xs e f pointing_other h
agree_by Views vs xs e f h = all_same Views vs xs e f pointing_other h
agree_by (Text ty) vs xs e f h = (e, f)
agree_by (Vector ty element) vs xs e f h = (e, f)
agree_by (Unique ty target) vs xs e f h = (e, f)
agree_by (Member first others) vs xs e f h = (
  length_front (width first) (width others) vs e,
  length_front (width first) (width others) xs f,
  agree_by first (take (width first) vs) (take (width first) xs) (length_front (width first) (width others) vs e) (length_front (width first) (width others) xs f)
      (λ u lt other. index_take (width first) vs u lt ∙ h u (omega (arith, lt)) (λ k. other (sym (row_front (width first) (kind_in first) (kind_in others) u lt) ∙ k)) ∙ sym (index_take (width first) xs u lt)),
  agree_by others (drop (width first) vs) (drop (width first) xs) (length_back (width first) (width others) vs e) (length_back (width first) (width others) xs f)
      (λ u lt other. index_drop (width first) vs u ∙ h (width first + u) (omega (arith, lt)) (λ k. other (sym (row_back (width first) (kind_in first) (kind_in others) u) ∙ k)) ∙ sym (index_drop (width first) xs u)),
)
agree_by NoMember vs xs e f h = all_same NoMember vs xs e f plain_other h

pub agree_then : (p : Parts) (us vs xs : List ℕ) → Agree p us vs → Agree p vs xs → Agree p us xs
agree_then Single us vs xs a b = a ∙ b
agree_then Raw us vs xs a b = a ∙ b
agree_then Iterates us vs xs a b = a ∙ b
agree_then Views us vs xs a b = a ∙ b
agree_then (Text ty) us vs xs a b = (a.0, b.1)
agree_then (Vector ty element) us vs xs a b = (a.0, b.1)
agree_then (Unique ty target) us vs xs a b = (a.0, b.1)
agree_then (Member first others) us vs xs a b = (
  a.0,
  b.1,
  agree_then first (take (width first) us) (take (width first) vs) (take (width first) xs) a.2 b.2,
  agree_then others (drop (width first) us) (drop (width first) vs) (drop (width first) xs) a.3 b.3,
)
agree_then NoMember us vs xs a b = a ∙ b

-- ---- the words that were zeroed are among those that come

over_word : (i v a w : ℕ) (xs : List ℕ) (o : Object) → w ≤ v → v < w + length xs → with_words i w xs (with_word i v a o) ≡ with_words i w xs o
over_word i v a w [] o le lt = absurd (omega (arith, le, lt))
over_word i v a w (x ∷ xs) o le lt =
    one_or_apart w v
    (λ e. ap (with_words i (w + 1) xs) (ap (λ k. with_word i w x (with_word i k a o)) (sym e) ∙ with_twice i w a x o))
    (λ ne.
    let less : w < v = omega (arith, le, ne) in
    ap (with_words i (w + 1) xs) (word_apart i w v x a o less) ∙ over_word i v a (w + 1) xs (with_word i w x o) (omega (arith, less)) (omega (arith, lt)))

pub zeroed_over : (i w : ℕ) (us xs : List ℕ) (o : Object) → ((j u : ℕ) → slice_get us j ≡ Some u → u < length xs) → with_words i w xs (zeroed i w us o) ≡ with_words i w xs o
zeroed_over i w [] xs o within = refl
zeroed_over i w (u ∷ us) xs o within =
    zeroed_over i w us xs (with_word i (w + u) 0 o) (λ j v e. within (suc j) v e)
    ∙ over_word i (w + u) 0 w xs o (omega arith) (let l = within 0 u refl in omega (arith, l))

-- ---- what is copied

module _ (s : Setting) where
  buffer_agree : (p : Parts) (ws : List ℕ) (x : Attempt Words) → ((vs : List ℕ) → length vs ≡ 1 → Agree p vs ws) → IfGot x (λ a. length a.0 ≡ 1) → IfGot x (λ a. Agree p a.0 ws)
  buffer_agree p ws (Got a) h long = h a.0 long
  buffer_agree p ws (GotTrap kind) h long = tt
  buffer_agree p ws (GotFault kind) h long = tt
  buffer_agree p ws GotLost h long = tt

  as_long : (w : ℕ) (ws : List ℕ) (c : Content) (x : Attempt Words) → length ws ≡ w → IfGot x (IsCopy w ws c) → IfGot x (λ a. length a.0 ≡ w)
  as_long w ws c (Got a) e h = h.long e
  as_long w ws c (GotTrap kind) e h = tt
  as_long w ws c (GotFault kind) e h = tt
  as_long w ws c GotLost e h = tt

  both_got : {A : Type 0} (x : Attempt A) (P Q : A → Type 0) → IfGot x P → IfGot x Q → IfGot x (λ a. P a × Q a)
  both_got (Got a) P Q h k = (h, k)
  both_got (GotTrap kind) P Q h k = tt
  both_got (GotFault kind) P Q h k = tt
  both_got GotLost P Q h k = tt

  pub copied_agree : (p : Parts) (ws : List ℕ) (c : Content) → length ws ≡ width p → IfGot (copied s p ws c) (λ a. Agree p a.0 ws)
  copied_agree Single ws c e = refl
  copied_agree Raw ws c e = refl
  copied_agree Iterates ws c e = refl
  copied_agree Views ws c e = refl
  copied_agree (Text ty) ws c e = buffer_agree (Text ty) ws (copied s (Text ty) ws c) (λ vs l. (l, e)) (as_long 1 ws c (copied s (Text ty) ws c) e (copied_kept s (Text ty) ws c))
  copied_agree (Vector ty element) ws c e = buffer_agree (Vector ty element) ws (copied s (Vector ty element) ws c) (λ vs l. (l, e)) (as_long 1 ws c (copied s (Vector ty element) ws c) e (copied_kept s (Vector ty element) ws c))
  copied_agree (Unique ty target) ws c e = tt
  copied_agree (Member first others) ws c e =
      let front : List ℕ = take (width first) ws in
      let back : List ℕ = drop (width first) ws in
      let e_front = length_front (width first) (width others) ws e in
      let e_back = length_back (width first) (width others) ws e in
      got_then (copied s first front c) (λ a. then_get (copied s others back a.1) (λ b. Got (a.0 ++ b.0, b.1))) (λ a. (length a.0 ≡ width first) × Agree first a.0 front) (λ v. Agree (Member first others) v.0 ws)
      (both_got (copied s first front c) (λ a. length a.0 ≡ width first) (λ a. Agree first a.0 front) (as_long (width first) front c (copied s first front c) e_front (copied_kept s first front c)) (copied_agree first front c e_front))
      (λ a h. got_then (copied s others back a.1) (λ b. Got (a.0 ++ b.0, b.1)) (λ b. Agree others b.0 back) (λ v. Agree (Member first others) v.0 ws)
      (copied_agree others back a.1 e_back)
      (λ b k. (
        ap (λ xs. length xs) (take_front (width first) a.0 b.0 h.0) ∙ h.0,
        e_front,
        subst (λ xs. Agree first xs front) (sym (take_front (width first) a.0 b.0 h.0)) h.1,
        subst (λ xs. Agree others xs back) (sym (drop_front (width first) a.0 b.0 h.0)) k,
      )))
  copied_agree NoMember ws c e = sym (nil_from_length ws e)
