-- The command line as clap is told of it.
use Rattle.std.specs.Prelude.{[], ◌∷◌, Bool, true, false, Some, codes}
use Rattle.clap.specs.Simple.{on_top}
use Rattle.clap.specs.Words.{App, Rule, Text, new_app, new_rule, with_rule}
use Rattle.clap.specs.declared.builder.ArgAction.TheVariants.{Set, SetTrue}

-- a word that stands by its place
abbrev pub positional_rule : Text → Bool → Rule
positional_rule id required = record (new_rule id) { required = required; action = Some Set }

-- an option with a value
abbrev pub option_rule : Text → Rule
option_rule id = record (new_rule id) { long = Some id; action = Some Set }

-- the same, with what it is where it isn't given
abbrev pub default_rule : Text → Text → Rule
default_rule id value = record (option_rule id) { defaults = value ∷ [] }

-- an option that is given or not
abbrev pub flag_rule : Text → Rule
flag_rule id = record (new_rule id) { long = Some id; action = Some SetTrue }

-- it has a version, and so an option that asks for it
abbrev pub with_version : App → App
with_version app = on_top (λ shape. record shape { has_version = true }) app

abbrev pub with_words : App → App
with_words app = with_rule (with_rule (with_rule app (positional_rule (codes "command") true)) (positional_rule (codes "first") true)) (positional_rule (codes "second") false)

abbrev pub with_entry : App → App
with_entry app = with_rule (with_rule (with_rule app (default_rule (codes "entry") (codes "main"))) (option_rule (codes "input"))) (default_rule (codes "growth") (codes "always"))

abbrev pub with_limits : App → App
with_limits app = with_rule (with_rule (with_rule app (default_rule (codes "steps") (codes "1000000"))) (default_rule (codes "cells") (codes "1000000"))) (default_rule (codes "depth") (codes "1000"))

abbrev pub with_flags : App → App
with_flags app = with_rule (with_rule app (flag_rule (codes "unchecked"))) (flag_rule (codes "json"))

-- the whole command: three words and eight options
unfoldable pub lifecheck : App
lifecheck = with_flags (with_limits (with_entry (with_words (with_version (new_app (codes "lifecheck"))))))
