-- Readers whose reading is the beginning of a tree wherever it stops, built from such parts.
use Rattle.std.proofs.Common.{◌≡◌, ℕ, zero, suc, Bool, true, false, List, [], length, Ok, Err, if◌then◌else◌, inl, inr, ◌⊎◌, refl, sym, subst, add-one}
use Rattle.life_parse.proofs.Begun.{Sample, Begun, Over, closing, deepening, begun_nothing, begun_second, over_second, begun_first, over_first, begun_as, over_as, begun_node, over_node}
use Rattle.life_parse.proofs.Binds.{bind_ok, bind_err, ok_is, stop_is, err_no_ok, ok_no_err}
use Rattle.life_parse.proofs.ElseTokens.{neither}
use Rattle.life_parse.proofs.Laws.{IsTree, Closes}
use Rattle.life_parse.proofs.Wholes.{Whole, Joins, whole_pair, fits_left, fits_right, whole_as, whole_node}
use Rattle.life_expr.specs.Heads.{Kind}
use Rattle.life_expr.specs.Read.{Stop, refused, deep, ◌>>=◌, Read, Reader, starts, pair, made, many_below, as_many}
use Rattle.life_tree.specs.Grammar.{Form, ◌or◌, many, rule, form_of, Conforms, ends_open}
use Rattle.life_tree.specs.Rules.{Rule}
use Rattle.life_tree.specs.Tree.{Tree, nothing, ◌⨾◌, node, tokens_of, Tokens}

-- Where reading stops
abbrev pub Stopped : (f : Form) (n : ℕ) (ts : Tokens) → Stop → Type 0
Stopped f n ts (refused rest) = Begun f ts rest
Stopped f n ts (deep rest) = (k : ℕ) → n ≡ suc k → Over n f ts rest

-- p reads the form f, and fewer than n constructs may be open
pub record Closed (p : Reader) (f : Form) (n : ℕ) : Type 0 where
  pub missing : Sample f
  pub reads : (ts : Tokens) (t : Tree) (rest : Tokens) → p ts ≡ Ok (t, rest) → Whole f ts t rest
  pub stops : (ts : Tokens) (s : Stop) → p ts ≡ Err s → Stopped f n ts s

pub Closes-closed : (p : Reader) (f : Form) (n : ℕ) → Closed p f (suc n) → Closes p f n
Closes-closed p f n c = record {
  refuses = λ ts rest e. closing f ts rest (c.stops ts (refused rest) e);
  deepens = λ ts rest e. deepening n f ts rest (subst (λ (j : ℕ). Over j f ts rest) (sym (add-one n)) (c.stops ts (deep rest) e n refl));
}

-- ---- a part and then another

-- the first part a, and what was read behind it
abbrev pub joined : Tree → Read → Read
joined a read = read >>= λ y. Ok (a ⨾ y.0, y.1)

pub stopped_second : (f : Form) (g : Tree → Form) (h : Form) (n : ℕ) → Joins f g h → (ts : Tokens) (a : Tree) (mid : Tokens) (s : Stop) → Whole f ts a mid → Stopped (g a) n mid s → Stopped h n ts s
stopped_second f g h n joins ts a mid (refused rest) w b = begun_second f g h joins ts a mid rest w b
stopped_second f g h n joins ts a mid (deep rest) w b = λ k is. over_second n f g h joins ts a mid rest w (b k is)

stopped_first : (f : Form) (g : Tree → Form) (h : Form) (n : ℕ) → Joins f g h → ((t : Tree) → Sample (g t)) → (ts : Tokens) (s : Stop) → Stopped f n ts s → Stopped h n ts s
stopped_first f g h n joins missing ts (refused rest) b = begun_first f g h joins ts rest b (missing b.tree)
stopped_first f g h n joins missing ts (deep rest) b = λ k is. let o = b k is in over_first n f g h joins ts rest o (missing o.begun.tree)

pub sample_pair : (f : Form) (g : Tree → Form) (h : Form) → Joins f g h → Sample f → ((t : Tree) → Sample (g t)) → Sample h
sample_pair f g h joins s m =
    let u = m s.tree in
    record {
      tree = s.tree ⨾ u.tree;
      fits = record { conforms = joins s.tree u.tree s.fits.conforms u.fits.conforms; elses = (s.fits.elses, u.fits.elses, λ first. let not_first = u.later in absurd cc) };
      later = neither s.tree u.tree s.later u.later;
    }

pub Closed-pair : (p : Reader) (q : Tree → Reader) (f : Form) (g : Tree → Form) (h : Form) (n : ℕ) → Joins f g h → Closed p f n → ((t : Tree) → Closed (q t) (g t) n) → Closed (pair p q) h n
Closed-pair p q f g h n joins c d = record {
  missing = sample_pair f g h joins c.missing (λ t. (d t).missing);
  reads = λ ts t rest e.
      let a = bind_ok (p ts) (λ x. q x.0 x.1 >>= λ y. Ok (x.0 ⨾ y.0, y.1)) (t, rest) e in
      let b = bind_ok (q a.0.0 a.0.1) (λ y. Ok (a.0.0 ⨾ y.0, y.1)) (t, rest) a.2 in
      subst (λ (y : Tree × Tokens). Whole h ts y.0 y.1) (ok_is (a.0.0 ⨾ b.0.0, b.0.1) (t, rest) b.2)
      (whole_pair f g h joins ts a.0.0 a.0.1 b.0.0 b.0.1 (c.reads ts a.0.0 a.0.1 a.1) ((d a.0.0).reads a.0.1 b.0.0 b.0.1 b.1));
  stops = λ ts s e. first ts s (bind_err (p ts) (λ x. q x.0 x.1 >>= λ y. Ok (x.0 ⨾ y.0, y.1)) s e);
}
  where
    second : (ts : Tokens) (x : Tree × Tokens) (s : Stop) → p ts ≡ Ok x → (q x.0 x.1 ≡ Err s) ⊎ ((y : Tree × Tokens) × (q x.0 x.1 ≡ Ok y) × (◌≡◌ {A = Read} (Ok (x.0 ⨾ y.0, y.1)) (Err s))) → Stopped h n ts s
    second ts x s e (inl u) = stopped_second f g h n joins ts x.0 x.1 s (c.reads ts x.0 x.1 e) ((d x.0).stops x.1 s u)
    second ts x s e (inr u) = absurd (ok_no_err _ _ u.2)

    first : (ts : Tokens) (s : Stop) → (p ts ≡ Err s) ⊎ ((x : Tree × Tokens) × (p ts ≡ Ok x) × (joined x.0 (q x.0 x.1) ≡ Err s)) → Stopped h n ts s
    first ts s (inl e) = stopped_first f g h n joins (λ t. (d t).missing) ts s (c.stops ts s e)
    first ts s (inr u) = second ts u.0 s u.1 (bind_err (q u.0.0 u.0.1) (λ y. Ok (u.0.0 ⨾ y.0, y.1)) s u.2)

-- ---- one of two

pub stopped_as : (f g : Form) (n : ℕ) → ((t : Tree) → Conforms t f → Conforms t g) → (ts : Tokens) (s : Stop) → Stopped f n ts s → Stopped g n ts s
stopped_as f g n as_well ts (refused rest) b = begun_as f g as_well ts rest b
stopped_as f g n as_well ts (deep rest) b = λ k is. over_as n f g as_well ts rest (b k is)

pub sample_as : (f g : Form) → ((t : Tree) → Conforms t f → Conforms t g) → Sample f → Sample g
sample_as f g as_well s = record { tree = s.tree; fits = record { conforms = as_well s.tree s.fits.conforms; elses = s.fits.elses }; later = s.later }

pub Closed-as : (p : Reader) (f g : Form) (n : ℕ) → ((t : Tree) → Conforms t f → Conforms t g) → Closed p f n → Closed p g n
Closed-as p f g n as_well c = record {
  missing = sample_as f g as_well c.missing;
  reads = λ ts t rest e. whole_as f g as_well ts t rest (c.reads ts t rest e);
  stops = λ ts s e. stopped_as f g n as_well ts s (c.stops ts s e);
}

pub Closed-if : (t : Tokens → Bool) (p q : Reader) (f : Form) (n : ℕ) → Closed p f n → Closed q f n → Closed (λ ts. if t ts then p ts else q ts) f n
Closed-if t p q f n c d = record {
  missing = d.missing;
  reads = λ ts u rest e. reads (t ts) ts u rest e;
  stops = λ ts s e. stops (t ts) ts s e;
}
  where
    reads : (b : Bool) (ts : Tokens) (u : Tree) (rest : Tokens) → (if b then p ts else q ts) ≡ Ok (u, rest) → Whole f ts u rest
    reads true ts u rest e = c.reads ts u rest e
    reads false ts u rest e = d.reads ts u rest e

    stops : (b : Bool) (ts : Tokens) (s : Stop) → (if b then p ts else q ts) ≡ Err s → Stopped f n ts s
    stops true ts s e = c.stops ts s e
    stops false ts s e = d.stops ts s e

pub Closed-or : (t : Tokens → Bool) (p q : Reader) (f g : Form) (n : ℕ) → Closed p f n → Closed q g n → Closed (λ ts. if t ts then p ts else q ts) (f or g) n
Closed-or t p q f g n c d = Closed-if t p q (f or g) n (Closed-as p f (f or g) n (λ u. fits_left u f g) c) (Closed-as q g (f or g) n (λ u. fits_right u f g) d)

-- ---- a rule

stopped_node : (r : Rule) (n : ℕ) (ts : Tokens) (s : Stop) → Stopped (form_of r) n ts s → Stopped (rule r) n ts s
stopped_node r n ts (refused rest) b = begun_node r ts rest b
stopped_node r n ts (deep rest) b = λ k is. over_node n r ts rest (b k is)

pub sample_node : (r : Rule) → Sample (form_of r) → Sample (rule r)
sample_node r s = record { tree = node r s.tree; fits = record { conforms = (refl, s.fits.conforms); elses = s.fits.elses }; later = s.later }

pub Closed-node : (r : Rule) (p : Reader) (n : ℕ) → Closed p (form_of r) n → Closed (made (node r) p) (rule r) n
Closed-node r p n c = record {
  missing = sample_node r c.missing;
  reads = λ ts t rest e.
      let a = bind_ok (p ts) (λ x. Ok (node r x.0, x.1)) (t, rest) e in
      subst (λ (y : Tree × Tokens). Whole (rule r) ts y.0 y.1) (ok_is (node r a.0.0, a.0.1) (t, rest) a.2) (whole_node r ts a.0.0 a.0.1 (c.reads ts a.0.0 a.0.1 a.1));
  stops = λ ts s e. go ts s (bind_err (p ts) (λ x. Ok (node r x.0, x.1)) s e);
}
  where
    go : (ts : Tokens) (s : Stop) → (p ts ≡ Err s) ⊎ ((x : Tree × Tokens) × (p ts ≡ Ok x) × (◌≡◌ {A = Read} (Ok (node r x.0, x.1)) (Err s))) → Stopped (rule r) n ts s
    go ts s (inl e) = stopped_node r n ts s (c.stops ts s e)
    go ts s (inr u) = absurd (ok_no_err _ _ u.2)

-- ---- nothing is read, or nothing at all

pub Closed-empty : (t : Tree) (f : Form) (n : ℕ) → tokens_of t ≡ [] → ends_open t ≡ false → Sample f → IsTree t f → Closed (λ ts. Ok (t, ts)) f n
Closed-empty t f n none shut s fits = record {
  missing = s;
  reads = λ ts u rest e. subst (λ (y : Tree × Tokens). Whole f ts y.0 y.1) (ok_is (t, ts) (u, rest) e) (record { spelled = rw none refl; fits = fits; elses = λ front. shut });
  stops = λ ts s e. absurd (ok_no_err _ _ e);
}

pub Closed-refusing : (f : Form) (n : ℕ) → Sample f → Closed (λ ts. Err (refused ts)) f n
Closed-refusing f n s = record {
  missing = s;
  reads = λ ts t rest e. absurd (err_no_ok _ _ e);
  stops = λ ts s' e. subst (λ (d : Stop). Stopped f n ts d) (stop_is (refused ts) s' e) (begun_nothing f ts s);
}

-- ---- any number of them

many_joins : (f : Form) → Joins f (λ t. many f) (many f)
many_joins f a b h k = (h, k)

pub none_of_many : (f : Form) → Sample (many f)
none_of_many f = record { tree = nothing; fits = record { conforms = tt; elses = tt }; later = refl }

pub Closed-below : (kinds : List Kind) (p : Reader) (f : Form) (n : ℕ) → Closed p f n → (k : ℕ) → Closed (many_below k kinds p) (many f) n
Closed-below kinds p f n c zero = Closed-refusing (many f) n (none_of_many f)
Closed-below kinds p f n c (suc k) =
    let more = Closed-below kinds p f n c k in
    Closed-if (starts kinds) (pair p (λ t. many_below k kinds p)) (λ ts. Ok (nothing, ts)) (many f) n
    (Closed-pair p (λ t. many_below k kinds p) f (λ t. many f) (many f) n (many_joins f) c (λ t. more))
    (Closed-empty nothing (many f) n refl refl (none_of_many f) (record { conforms = tt; elses = tt }))

pub Closed-many : (kinds : List Kind) (p : Reader) (f : Form) (n : ℕ) → Closed p f n → Closed (as_many kinds p) (many f) n
unfolding as_many
Closed-many kinds p f n c = record {
  missing = none_of_many f;
  reads = λ ts t rest e. (Closed-below kinds p f n c (suc (length ts))).reads ts t rest e;
  stops = λ ts s e. (Closed-below kinds p f n c (suc (length ts))).stops ts s e;
}
