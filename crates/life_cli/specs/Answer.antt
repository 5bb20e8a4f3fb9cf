-- What a command comes to.
use Rattle.std.specs.Prelude.{◌++◌, ℕ, List, [], ◌∷◌}
use Rattle.life_cli.specs.declared.reply.Reply.{Reply}
use Rattle.life_cli.specs.declared.status.Status.{Status}

-- a status, and the bytes of out and of err
pub record Answer : Type 0 where
  pub status : Status
  pub out : List ℕ
  pub err : List ℕ

-- the text, and the byte that ends a line
abbrev pub line : List ℕ → List ℕ
line text = text ++ 10 ∷ []

-- a line on err alone
abbrev pub refusal : Status → List ℕ → Answer
refusal status text = record { status = status; out = []; err = line text }

-- a line on out alone
abbrev pub report : Status → List ℕ → Answer
report status text = record { status = status; out = line text; err = [] }

-- the answer that a reply holds
abbrev pub answer_in : Reply → Answer
answer_in reply = record { status = reply.status; out = reply.out.items; err = reply.err.items }
