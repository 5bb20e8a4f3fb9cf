-- What is told of the program itself.
use Rattle.std.specs.Prelude.{List, [], ◌∷◌, ◌++◌, codes}
use Rattle.clap.specs.Words.{Text}

-- each line, and the byte 10 behind it
abbrev pub lines : List Text → Text
lines [] = []
lines (line ∷ rest) = line ++ (10 ∷ lines rest)

abbrev pub help_text : Text
help_text = lines
    (codes "lifecheck checks the lifetimes of the pointers in a file of C++, and runs what it accepts."
    ∷ codes ""
    ∷ codes "usage: lifecheck COMMAND FILE [OPTIONS]"
    ∷ codes ""
    ∷ codes "commands:"
    ∷ codes "  check FILE       write the report on FILE"
    ∷ codes "  run FILE         check FILE, and run it if nothing is diagnosed"
    ∷ codes "  psets FILE       write what each pointer of FILE may point to, at each point"
    ∷ codes "  gen NUMBER SIZE  make the file with this number, 0 to 18446744073709551615, of SIZE functions, 0 to 200, check it and run it"
    ∷ codes ""
    ∷ codes "options, in any order:"
    ∷ codes "  --entry NAME     the function with which a run begins; default main"
    ∷ codes "  --input FILE     the file with the numbers that a run takes in; default none, an empty input"
    ∷ codes "  --growth POLICY  how a vector grows: always, or double; default always"
    ∷ codes "  --steps N        the most steps of a run, 0 to 1000000000; default 1000000"
    ∷ codes "  --cells N        the most words that live at once in a run, 0 to 10000000; default 1000000"
    ∷ codes "  --depth N        the most calls that stand at once in a run, 1 to 10000; default 1000"
    ∷ codes "  --unchecked      run also what is diagnosed; default off"
    ∷ codes "  --json           write the report of a check as JSON; default off"
    ∷ codes "  --help           write this text"
    ∷ codes "  --version        write the version"
    ∷ codes ""
    ∷ codes "statuses:"
    ∷ codes "  0 accepted or done, 1 diagnosed, 2 syntax, 3 ill-formed, 4 limit, 5 trap, 6 fault, 7 out of steps,"
    ∷ codes "  64 usage, 65 input, 66 no such file, 71 no memory, 74 a read or a write failed"
    ∷ codes ""
    ∷ codes "example:"
    ∷ codes "  lifecheck run program.cpp --input numbers.txt --steps 5000"
    ∷ [])

abbrev pub version_text : Text
version_text = lines (codes "lifecheck 0.1.0" ∷ [])
