-- What was read before reading stopped is the beginning of a tree.
use Rattle.std.proofs.Common.{◌≡◌, ℕ, suc, ◌+◌, true, false, ◌&&◌, List, [], ◌∷◌, ◌++◌, length, refl, sym, ap, subst, ◌∙◌, append_assoc}
use Rattle.std.proofs.lemmas.Bool.{and_parts}
use Rattle.std.proofs.lemmas.List.{length-append}
use Rattle.life_parse.proofs.Counts.{one_more, one_more-append, one_more-length, counts_length, counts_further}
use Rattle.life_parse.proofs.ElseTokens.{empty_tokens, else_first, one_true}
use Rattle.life_parse.proofs.Laws.{else_in_front, IsTree, Closing, Deepening}
use Rattle.life_parse.proofs.Wholes.{Whole, Joins}
use Rattle.life_tree.specs.Grammar.{Form, opens, rule, form_of, Conforms, begins_with_else}
use Rattle.life_tree.specs.Rules.{Rule}
use Rattle.life_tree.specs.Tree.{Tree, ◌⨾◌, construct, node, tokens_of, is_empty, open_at, Tokens}
use Rattle.life_tree.specs.declared.key.TokenKey.TheVariants as keys
use Rattle.life_tree.specs.declared.token.TreeToken.{TreeToken}
use Rattle.life_types.specs.declared.place.Place.{Place}

-- a tree of the form that may stand where none was read
pub record Sample (f : Form) : Type 0 where
  pub tree : Tree
  pub fits : IsTree tree f
  pub later : begins_with_else tree ≡ false

-- a tree begins with what was read of ts, up to rest; it begins with `else` only if ts does
pub record Begun (f : Form) (ts rest : Tokens) : Type 0 where
  pub before : Tokens
  pub after : Tokens
  pub tree : Tree
  pub split : ts ≡ before ++ rest
  pub spelled : before ++ after ≡ tokens_of tree
  pub fits : IsTree tree f
  pub elses : begins_with_else tree ≡ true → else_in_front ts ≡ true

-- .. and goes on with the token in front of rest, at which n are open
pub record Over (n : ℕ) (f : Form) (ts rest : Tokens) : Type 0 where
  pub begun : Begun f ts rest
  pub opener : TreeToken
  pub behind : Tokens
  pub further : Tokens
  pub front : rest ≡ opener ∷ behind
  pub goes_on : begun.after ≡ opener ∷ further
  pub counts : List ℕ
  pub later : List ℕ
  pub counted : open_at 0 begun.tree ≡ counts ++ n ∷ later
  pub as_far : length counts ≡ length begun.before

pub closing : (f : Form) (ts rest : Tokens) → Begun f ts rest → Closing f ts rest
closing f ts rest b = record { before = b.before; closing = b.after; tree = b.tree; split = b.split; spelled = b.spelled; fits = b.fits }

pub deepening : (n : ℕ) (f : Form) (ts rest : Tokens) → Over (n + 1) f ts rest → Deepening n f ts rest
deepening n f ts rest o = record {
  before = o.begun.before;
  closing = o.further;
  tree = o.begun.tree;
  opener = o.opener;
  behind = o.behind;
  split = o.begun.split;
  front = o.front;
  spelled = subst (λ (u : Tokens). o.begun.before ++ u ≡ tokens_of o.begun.tree) o.goes_on o.begun.spelled;
  fits = o.begun.fits;
  counts = o.counts;
  later = o.later;
  counted = o.counted;
  as_far = o.as_far;
}

-- ---- nothing was read

pub begun_nothing : (f : Form) (ts : Tokens) → Sample f → Begun f ts ts
begun_nothing f ts s = record { before = []; after = tokens_of s.tree; tree = s.tree; split = refl; spelled = refl; fits = s.fits; elses = λ first. let not_first = s.later in absurd cc }

-- ---- a first part, and then a second

-- the first part was read, and the second was begun
pub begun_second : (f : Form) (g : Tree → Form) (h : Form) → Joins f g h → (ts : Tokens) (a : Tree) (mid rest : Tokens) → Whole f ts a mid → Begun (g a) mid rest → Begun h ts rest
begun_second f g h joins ts a mid rest w b = record {
  before = tokens_of a ++ b.before;
  after = b.after;
  tree = a ⨾ b.tree;
  split = w.spelled ∙ ap (λ (u : Tokens). tokens_of a ++ u) b.split ∙ sym (append_assoc (tokens_of a) b.before rest);
  spelled = append_assoc (tokens_of a) b.before b.after ∙ ap (λ (u : Tokens). tokens_of a ++ u) b.spelled;
  fits = record {
    conforms = joins a b.tree w.fits.conforms b.fits.conforms;
    elses = (w.fits.elses, b.fits.elses, λ first. w.elses (b.elses first));
  };
  elses = λ first.
      subst (λ (u : Tokens). else_in_front u ≡ true) (sym w.spelled)
      (one_true (begins_with_else a) (is_empty a && begins_with_else b.tree) first (λ at_once. else_first a mid at_once) (λ later.
      let both = and_parts (is_empty a) (begins_with_else b.tree) later in
      rw (empty_tokens a both.0) (b.elses both.1)));
}

pub over_second : (n : ℕ) (f : Form) (g : Tree → Form) (h : Form) → Joins f g h → (ts : Tokens) (a : Tree) (mid rest : Tokens) → Whole f ts a mid → Over n (g a) mid rest → Over n h ts rest
unfolding begun_second
over_second n f g h joins ts a mid rest w o = record {
  begun = begun_second f g h joins ts a mid rest w o.begun;
  opener = o.opener;
  behind = o.behind;
  further = o.further;
  front = o.front;
  goes_on = o.goes_on;
  counts = open_at 0 a ++ o.counts;
  later = o.later;
  counted = ap (λ (u : List ℕ). open_at 0 a ++ u) o.counted ∙ sym (append_assoc (open_at 0 a) o.counts (n ∷ o.later));
  as_far = rw (length-append (open_at 0 a) o.counts, length-append (tokens_of a) o.begun.before, counts_length 0 a, o.as_far) refl;
}

-- the first part was begun, and the second is a sample
pub begun_first : (f : Form) (g : Tree → Form) (h : Form) → Joins f g h → (ts rest : Tokens) (b : Begun f ts rest) → Sample (g b.tree) → Begun h ts rest
begun_first f g h joins ts rest b s = record {
  before = b.before;
  after = b.after ++ tokens_of s.tree;
  tree = b.tree ⨾ s.tree;
  split = b.split;
  spelled = sym (append_assoc b.before b.after (tokens_of s.tree)) ∙ ap (λ (u : Tokens). u ++ tokens_of s.tree) b.spelled;
  fits = record {
    conforms = joins b.tree s.tree b.fits.conforms s.fits.conforms;
    elses = (b.fits.elses, s.fits.elses, λ first. let not_first = s.later in absurd cc);
  };
  elses = λ first. one_true (begins_with_else b.tree) (is_empty b.tree && begins_with_else s.tree) first b.elses (λ later. let both = and_parts (is_empty b.tree) (begins_with_else s.tree) later in let is = both.1 in let not_first = s.later in absurd cc);
}

pub over_first : (n : ℕ) (f : Form) (g : Tree → Form) (h : Form) → Joins f g h → (ts rest : Tokens) (o : Over n f ts rest) → Sample (g o.begun.tree) → Over n h ts rest
unfolding begun_first
over_first n f g h joins ts rest o s = record {
  begun = begun_first f g h joins ts rest o.begun s;
  opener = o.opener;
  behind = o.behind;
  further = o.further ++ tokens_of s.tree;
  front = o.front;
  goes_on = ap (λ (u : Tokens). u ++ tokens_of s.tree) o.goes_on;
  counts = o.counts;
  later = o.later ++ open_at 0 s.tree;
  counted = ap (λ (u : List ℕ). u ++ open_at 0 s.tree) o.counted ∙ append_assoc o.counts (n ∷ o.later) (open_at 0 s.tree);
  as_far = o.as_far;
}

-- ---- one of two forms, and rules

pub begun_as : (f g : Form) → ((t : Tree) → Conforms t f → Conforms t g) → (ts rest : Tokens) → Begun f ts rest → Begun g ts rest
begun_as f g as_well ts rest b = record {
  before = b.before;
  after = b.after;
  tree = b.tree;
  split = b.split;
  spelled = b.spelled;
  fits = record { conforms = as_well b.tree b.fits.conforms; elses = b.fits.elses };
  elses = b.elses;
}

pub over_as : (n : ℕ) (f g : Form) → ((t : Tree) → Conforms t f → Conforms t g) → (ts rest : Tokens) → Over n f ts rest → Over n g ts rest
unfolding begun_as
over_as n f g as_well ts rest o = record {
  begun = begun_as f g as_well ts rest o.begun;
  opener = o.opener;
  behind = o.behind;
  further = o.further;
  front = o.front;
  goes_on = o.goes_on;
  counts = o.counts;
  later = o.later;
  counted = o.counted;
  as_far = o.as_far;
}

pub begun_node : (r : Rule) (ts rest : Tokens) → Begun (form_of r) ts rest → Begun (rule r) ts rest
begun_node r ts rest b = record {
  before = b.before;
  after = b.after;
  tree = node r b.tree;
  split = b.split;
  spelled = b.spelled;
  fits = record { conforms = (refl, b.fits.conforms); elses = b.fits.elses };
  elses = b.elses;
}

pub over_node : (n : ℕ) (r : Rule) (ts rest : Tokens) → Over n (form_of r) ts rest → Over n (rule r) ts rest
unfolding begun_node
over_node n r ts rest o = record {
  begun = begun_node r ts rest o.begun;
  opener = o.opener;
  behind = o.behind;
  further = o.further;
  front = o.front;
  goes_on = o.goes_on;
  counts = o.counts;
  later = o.later;
  counted = o.counted;
  as_far = o.as_far;
}

-- ---- constructs

-- the opener was read, and then what is in the construct was begun
pub begun_inside : (m : ℕ) (f : Form) (ts : Tokens) (place : Place) (mid rest : Tokens) → ts ≡ record { key = keys.Fixed m; place = place } ∷ mid → Begun f mid rest → Begun (opens m f) ts rest
begun_inside m f ts place mid rest front b = record {
  before = record { key = keys.Fixed m; place = place } ∷ b.before;
  after = b.after;
  tree = construct m place b.tree;
  split = front ∙ ap (λ (u : Tokens). record { key = keys.Fixed m; place = place } ∷ u) b.split;
  spelled = ap (λ (u : Tokens). record { key = keys.Fixed m; place = place } ∷ u) b.spelled;
  fits = record { conforms = (refl, b.fits.conforms); elses = b.fits.elses };
  elses = λ first. subst (λ (u : Tokens). else_in_front u ≡ true) (sym front) first;
}

pub over_inside : (n m : ℕ) (f : Form) (ts : Tokens) (place : Place) (mid rest : Tokens) → ts ≡ record { key = keys.Fixed m; place = place } ∷ mid → Over n f mid rest → Over (n + 1) (opens m f) ts rest
unfolding begun_inside
over_inside n m f ts place mid rest front o = record {
  begun = begun_inside m f ts place mid rest front o.begun;
  opener = o.opener;
  behind = o.behind;
  further = o.further;
  front = o.front;
  goes_on = o.goes_on;
  counts = 1 ∷ one_more o.counts;
  later = one_more o.later;
  counted = ap (λ (u : List ℕ). 1 ∷ u) (counts_further 0 o.begun.tree ∙ ap one_more o.counted ∙ one_more-append o.counts (n ∷ o.later));
  as_far = ap suc (one_more-length o.counts ∙ o.as_far);
}

-- none may be open, and the opener stands in front
pub over_at_opener : (m : ℕ) (f : Form) (ts : Tokens) (place : Place) (mid : Tokens) → ts ≡ record { key = keys.Fixed m; place = place } ∷ mid → Sample f → Over 1 (opens m f) ts ts
over_at_opener m f ts place mid front s = record {
  begun = record {
    before = [];
    after = record { key = keys.Fixed m; place = place } ∷ tokens_of s.tree;
    tree = construct m place s.tree;
    split = refl;
    spelled = refl;
    fits = record { conforms = (refl, s.fits.conforms); elses = s.fits.elses };
    elses = λ first. subst (λ (u : Tokens). else_in_front u ≡ true) (sym front) first;
  };
  opener = record { key = keys.Fixed m; place = place };
  behind = mid;
  further = tokens_of s.tree;
  front = front;
  goes_on = refl;
  counts = [];
  later = open_at 1 s.tree;
  counted = refl;
  as_far = refl;
}
