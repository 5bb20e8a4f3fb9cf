-- Reading a form looks at no token but the next, if the rules that it mentions do.
use Rattle.std.proofs.Common.{◌≡◌, ℕ, Bool, true, false, not, ◌&&◌, Ok, refl, sym}
use Rattle.std.proofs.lemmas.Bool.{and_parts, not-true}
use Rattle.life_expr.specs.Heads.{quoted_kind, name_kind, number_kind, character_kind, text_kind, heads, may_be_empty, rule_may_be_empty}
use Rattle.life_expr.specs.Read.{Reader, as_it_stands, reads, opener}
use Rattle.life_expr.specs.Readers.{Readers, no_reader, derived}
use Rattle.life_parse.proofs.Looks.{Law}
use Rattle.life_parse.proofs.LooksOn.{Looks-done, Looks-refused, Law-token, Law-opener, Law-both, Law-when, Law-made}
use Rattle.life_parse.proofs.LooksMany.{Law-many}
use Rattle.life_tree.specs.Grammar.{Form, form_of, none, no_else, quoted, name, number, character, text, ◌then◌, ◌decides◌, ◌or◌, many, opens, rule}
use Rattle.life_tree.specs.Rules.{Rule}
use Rattle.life_tree.specs.Tree.{Tree, nothing, without_else, construct, ◌⨾◌, node}

-- of what is read many times each takes a token, and no part decides on the next
abbrev pub is_plain : Form → Bool
is_plain (f then g) = is_plain f && is_plain g
is_plain (f decides g) = false
is_plain (f or g) = is_plain f && is_plain g
is_plain (many f) = not (may_be_empty f) && is_plain f
is_plain (opens m f) = is_plain f
is_plain _ = true

-- of each rule
abbrev pub Laws : Readers → Type 0
Laws readers = (r : Rule) → Law (rule_may_be_empty r) (readers r)

pub Law-any : (a : Bool) (p : Reader) → Law false p → Law a p
Law-any a p g = record { looks = g.looks; shrinks = λ h. g.shrinks refl }

-- what takes nothing
Law-done : (t : Tree) → Law true (λ ts. Ok (t, ts))
Law-done t = record { looks = Looks-done t; shrinks = λ h. absurd cc }

pub reads_law : (n : ℕ) (inside same : Readers) → Laws inside → Laws same → (f : Form) → is_plain f ≡ true → Law (may_be_empty f) (reads n inside same f)
reads_law n inside same i s none h = Law-done nothing
reads_law n inside same i s no_else h = Law-done without_else
reads_law n inside same i s (quoted m) h = Law-token false (quoted_kind m) _
reads_law n inside same i s name h = Law-token false name_kind as_it_stands
reads_law n inside same i s number h = Law-token false number_kind as_it_stands
reads_law n inside same i s character h = Law-token false character_kind as_it_stands
reads_law n inside same i s text h = Law-token false text_kind as_it_stands
reads_law n inside same i s (f then g) h =
    let b = and_parts (is_plain f) (is_plain g) h in
    Law-both (may_be_empty f) (may_be_empty g) (reads n inside same f) (λ x. reads n inside same g) ◌⨾◌ (reads_law n inside same i s f b.0) (λ x. reads_law n inside same i s g b.1)
reads_law n inside same i s (f decides g) h = absurd cc
reads_law n inside same i s (f or g) h =
    let b = and_parts (is_plain f) (is_plain g) h in
    Law-when (may_be_empty f) (may_be_empty g) (heads f) (reads n inside same f) (reads n inside same g) (reads_law n inside same i s f b.0) (reads_law n inside same i s g b.1)
reads_law n inside same i s (many f) h =
    let b = and_parts (not (may_be_empty f)) (is_plain f) h in
    Law-many (heads f) (λ us. reads n inside same f us) (rw (sym (not-true (may_be_empty f) b.0)) (reads_law n inside same i s f b.1))
reads_law n inside same i s (opens m f) h =
    Law-both false (may_be_empty f) (opener n m) (λ x. reads 0 inside inside f) (construct m) (Law-opener false n m) (λ x. reads_law 0 inside inside i i f h)
reads_law n inside same i s (rule r) h = s r

pub Law-no_reader : (a : Bool) → Law a no_reader
Law-no_reader a = record { looks = Looks-refused; shrinks = λ h. record { shrinks = λ ts x rest e. absurd cc } }

pub Law-derived : (n : ℕ) (inside same : Readers) → Laws inside → Laws same → (r : Rule) → is_plain (form_of r) ≡ true → Law (may_be_empty (form_of r)) (derived n inside same r)
Law-derived n inside same i s r h = Law-made (may_be_empty (form_of r)) (node r) (reads n inside same (form_of r)) (reads_law n inside same i s (form_of r) h)
