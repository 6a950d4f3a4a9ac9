-- The kinds of statements, by the operation as it is written.
use Rattle.std.specs.Prelude.{ℕ, Bool, cond, ◌||◌, List, codes}
use Rattle.std.specs.Str.{bytes_eq}
use Rattle.lines.specs.declared.kinds.Kind.{Kind}
use Rattle.lines.specs.declared.kinds.Kind.TheVariants.{Declaration, Assignment, Branch, Jump, Label, Exit, Mend, Note, Opening, Closing, Model}

-- the operation is this word
abbrev pub spells : List ℕ → List ℕ → Bool
spells t op = bytes_eq op t

-- LCLA, LCLB, LCLC, GBLA, GBLB, GBLC
abbrev pub declares : List ℕ → Bool
declares op = spells (codes "LCLA") op || (spells (codes "LCLB") op || (spells (codes "LCLC") op || (spells (codes "GBLA") op || (spells (codes "GBLB") op || spells (codes "GBLC") op))))

-- SETA, SETB, SETC
abbrev pub assigns : List ℕ → Bool
assigns op = spells (codes "SETA") op || (spells (codes "SETB") op || spells (codes "SETC") op)

-- END and BEND, which end an assembly
abbrev pub closes : List ℕ → Bool
closes op = spells (codes "END") op || spells (codes "BEND") op

-- the kind of a statement with this operation; any other is a model
abbrev pub kind_of : List ℕ → Kind
kind_of op =
    cond (declares op) Declaration
    (cond (assigns op) Assignment
    (cond (spells (codes "AIF") op) Branch
    (cond (spells (codes "AGO") op) Jump
    (cond (spells (codes "ANOP") op) Label
    (cond (spells (codes "MEXIT") op) Exit
    (cond (spells (codes "MEND") op) Mend
    (cond (spells (codes "MNOTE") op) Note
    (cond (spells (codes "MACRO") op) Opening
    (cond (closes op) Closing Model)))))))))
