-- Words that are numbers, and lists of words that are written one after the other.
use Rattle.std.proofs.Common.{◌≡◌, ℕ, suc, ◌+◌, List, [], ◌∷◌, Some, refl, sym, ap, subst, ◌∙◌, arith}
use Rattle.life_store.specs.Cells.{Cells, set}
use Rattle.life_store.specs.Content.{Object, Content, with_object, with_word, word_at}
use Rattle.life_store.specs.Held.{with_words}
use Rattle.life_store.specs.References.{Rows, object_of}
use Rattle.life_store.specs.declared.object.ObjRef.{ObjRef}
use Rattle.life_seen.specs.Kinds.{Kinds}
use Rattle.life_store.specs.Kinds.{Kind, Plain}
use Rattle.life_seen.specs.Mapped.{mapped}
use Rattle.life_seen.specs.Named.{Names, names_of}
use Rattle.life_seen.specs.Seen.{word_seen, words_seen, object_seen, seen}
use Rattle.life_seen.specs.Housed.{WordLives, WordsLive, SlotsLive, IsHoused, Shows}
use Rattle.life_seen.proofs.Calls.{shows_put}
use Rattle.life_seen.proofs.Contents.{named_with}
use Rattle.life_seen.proofs.MapViews.{mapped-set}
use Rattle.life_seen.proofs.References.{found}
use Rattle.life_seen.proofs.Views.{live_alike, object_put, object_put_lives, object_read}

module _ (kinds : Kinds) (names : Names) where
  -- a number is seen as it is
  pub plain_read : (o : Object) (i u : ℕ) → kinds o.ty u ≡ Plain → word_at (object_seen kinds names o) i u ≡ word_at o i u
  plain_read o i u plain = object_read kinds names o i u ∙ ap (λ k. word_seen names k (word_at o i u)) plain

  words_alike : (f g : ℕ → Kind) (ws : List ℕ) → ((u : ℕ) → f u ≡ g u) → words_seen names f ws ≡ words_seen names g ws
  words_alike f g [] h = refl
  words_alike f g (w ∷ ws) h = (λ i. word_seen names (h 0 i) w ∷ words_alike (λ u. f (suc u)) (λ u. g (suc u)) ws (λ u. h (suc u)) i)

  -- words are written as what they are seen as
  pub object_puts : (o : Object) (i w : ℕ) (vs : List ℕ) → object_seen kinds names (with_words i w vs o) ≡ with_words i w (words_seen names (λ u. kinds o.ty (w + u)) vs) (object_seen kinds names o)
  object_puts o i w [] = refl
  object_puts o i w (v ∷ vs) =
      let z : w ≡ w + 0 = omega arith in
      object_puts (with_word i w v o) i (w + 1) vs
      ∙ ap (with_words i (w + 1) (words_seen names (λ u. kinds o.ty (w + 1 + u)) vs)) (object_put kinds names o i w v)
      ∙ (λ j. with_words i (w + 1) (words_alike (λ u. kinds o.ty (w + 1 + u)) (λ u. kinds o.ty (w + suc u)) vs (λ u. ap (kinds o.ty) (omega arith)) j)
      (with_word i w (word_seen names (kinds o.ty (z j)) v) (object_seen kinds names o)))

pub shows_number : (kinds : Kinds) (c : Content) (rows : Rows) → IsHoused kinds c rows → (r : ObjRef) (i u v : ℕ) (o : Object) → object_of c rows r ≡ Some o → kinds o.ty u ≡ Plain
    → (d : Content) (new : Rows) → d ≡ with_object r.birth (with_word i u v o) c → new ≡ rows
    → Shows kinds d new (with_object r.birth (with_word i u v (object_seen kinds (names_of c rows) o)) (seen kinds c rows))
shows_number kinds c rows h r i u v o there plain d new last same =
    shows_put kinds c rows h d new r i u v v o there (subst (λ k. WordLives (names_of c rows) k v) (sym plain) tt) (ap (λ k. word_seen (names_of c rows) k v) plain) last same

-- ---- a list of words is written

module _ (kinds : Kinds) (names : Names) where
  pub object_puts_live : (o : Object) (i w : ℕ) (vs : List ℕ) → SlotsLive names (kinds o.ty) o.slots → WordsLive names (λ u. kinds o.ty (w + u)) vs → SlotsLive names (kinds o.ty) (with_words i w vs o).slots
  object_puts_live o i w [] l new = l
  object_puts_live o i w (v ∷ vs) l new =
      let z : w + 0 ≡ w = omega arith in
      object_puts_live (with_word i w v o) i (w + 1) vs (object_put_lives kinds names o i w v l (subst (λ k. WordLives names (kinds o.ty k) v) z new.0))
      (live_alike names (λ u. kinds o.ty (w + suc u)) (λ u. kinds o.ty (w + 1 + u)) vs (λ u. ap (kinds o.ty) (omega arith)) new.1)

pub shows_words : (kinds : Kinds) (c : Content) (rows : Rows) → IsHoused kinds c rows → (r : ObjRef) (i w : ℕ) (vs : List ℕ) (o : Object) → object_of c rows r ≡ Some o
    → WordsLive (names_of c rows) (λ u. kinds o.ty (w + u)) vs
    → (d : Content) (new : Rows) → d ≡ with_object r.birth (with_words i w vs o) c → new ≡ rows
    → Shows kinds d new (with_object r.birth (with_words i w (words_seen (names_of c rows) (λ u. kinds o.ty (w + u)) vs) (object_seen kinds (names_of c rows) o)) (seen kinds c rows))
shows_words kinds c rows h r i w vs o there live d new last placed =
    let names : Names = names_of c rows in
    let meant : Object = with_words i w (words_seen (names_of c rows) (λ u. kinds o.ty (w + u)) vs) (object_seen kinds (names_of c rows) o) in
    let same : (with_words i w vs o).ty ≡ o.ty = puts_ty i w vs o in
    subst (λ x. Shows kinds x new (with_object r.birth meant (seen kinds c rows))) (sym last)
    (subst (λ x. Shows kinds (with_object r.birth (with_words i w vs o) c) x (with_object r.birth meant (seen kinds c rows))) (sym placed)
    (record {
      housed = record {
        apart = h.apart;
        below = h.below;
        small = h.small;
        named = named_with kinds names c r.birth c.clock o (with_words i w vs o) h.named (found c rows r o there).there
            (subst (λ ty. SlotsLive names (kinds ty) (with_words i w vs o).slots) (sym same) (object_puts_live kinds names o i w vs (h.named.owners r.birth o (found c rows r o there).there) live));
      };
      is = ap (λ (m : Cells Object). record { objects = m; births = c.births; clock = c.clock })
          (mapped-set (object_seen kinds names) c.objects r.birth (with_words i w vs o) ∙ ap (set (mapped (object_seen kinds names) c.objects) r.birth) (object_puts kinds names o i w vs));
    }))
  where
    puts_ty : (i w : ℕ) (vs : List ℕ) (o : Object) → (with_words i w vs o).ty ≡ o.ty
    puts_ty i w [] o = refl
    puts_ty i w (v ∷ vs) o = puts_ty i (w + 1) vs (with_word i w v o)
