-- The bytes of the drill: the table that a seed gives, the three jobs over it, and the line above their reports.
use Rattle.std.specs.Prelude.{ℕ, ◌+◌, ◌*◌, ◌%◌, List, ◌++◌, codes}
use Rattle.std.specs.Fmt.{decimal}
use Rattle.std.specs.List.{flat_map, range_with_len}
use Rattle.drill_texts.specs.declared.drill.Drill.{Drill}
use Rattle.drill_texts.specs.declared.drill.Drill.TheVariants.{Best, Greatest, Segments}

-- the weight and the value of row i, which counts from 1
abbrev pub weight_at : ℕ → ℕ → ℕ
weight_at seed i = 1 + (seed + 7 * i) % 13

abbrev pub value_at : ℕ → ℕ → ℕ
value_at seed i = 1 + (3 * seed + 11 * i + i * i) % 101

-- the line of row i
abbrev pub row_text : ℕ → ℕ → List ℕ
row_text seed i =
    decimal (weight_at seed i) ++ (codes "," ++ (decimal (value_at seed i) ++ codes "\n"))

-- the header, and the lines of rows 1 to rows
abbrev pub table_text : ℕ → ℕ → List ℕ
table_text seed rows = codes "weight,value\n" ++ flat_map (row_text seed) (range_with_len 1 rows)

-- the specification of each job
abbrev pub spec_text : Drill → List ℕ
spec_text Best =
    codes "gta 1\ncolumns weight value\ngenerate sublists\n"
    ++ codes "test sum weight <= 100\naggregate best 3 max value\nrows\n"
spec_text Greatest =
    codes "gta 1\ncolumns weight value\ngenerate sublists\n"
    ++ codes "test sum weight <= 1000\naggregate max value\nrows\n"
spec_text Segments =
    codes "gta 1\ncolumns weight value\ngenerate segments\n"
    ++ codes "test length >= 1\naggregate count\nrows\n"

-- the specification, and the table behind it
abbrev pub drill_text : Drill → ℕ → ℕ → List ℕ
drill_text drill seed rows = spec_text drill ++ table_text seed rows

-- the line above the three reports
abbrev pub heading : ℕ → ℕ → List ℕ
heading seed rows = codes "drill " ++ (decimal seed ++ (codes " " ++ (decimal rows ++ codes "\n")))
