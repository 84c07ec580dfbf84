-- What is written of the customers, as a text and as a picture.
use Rattle.queue_model.specs.declared.tally.Tally.{Tally}
use Rattle.std.specs.List.{fold}
use Rattle.std.specs.Prelude.{List, [], codes, decimal, if◌then◌else◌, max, min, ℕ, ◌%◌, ◌*◌, ◌++◌, ◌+◌, ◌-◌, ◌/◌, ◌==◌, ◌∷◌}

-- a product, or the greatest u64
abbrev pub product : ℕ → ℕ → ℕ
product a b = min (a * b) 18446744073709551615

-- ---- numbers

-- the last digit of a number
abbrev pub last_digit : ℕ → ℕ
last_digit n = 48 + n % 10

-- a fraction less than 1: a point, and three digits after it
abbrev pub thousandths : ℕ → ℕ → List ℕ
thousandths n d =
    46 ∷ last_digit (n * 1000 / d / 100) ∷ last_digit (n * 1000 / d / 10) ∷ last_digit (n * 1000 / d) ∷ []

-- a fraction with three digits after the point; a dash where there is nothing to divide by
abbrev pub fraction_text : ℕ → ℕ → List ℕ
fraction_text n d = if d == 0 then codes "-" else decimal (n / d) ++ thousandths (n % d) d

-- ---- the text

-- a bar of the histogram: from how many ticks on, and how many waited so long
abbrev pub bar_line : ℕ → ℕ → ℕ → List ℕ
bar_line width bar n = codes "waited from " ++ (decimal (product bar width) ++ (codes ": " ++ (decimal n ++ 10 ∷ [])))

-- from that bar on
abbrev pub bar_lines : ℕ → ℕ → List ℕ → List ℕ
bar_lines width bar [] = []
bar_lines width bar (n ∷ ns) = bar_line width bar n ++ bar_lines width (bar + 1) ns

abbrev pub count_line : List ℕ → ℕ → List ℕ
count_line name n = name ++ decimal n ++ 10 ∷ []

-- how long who was served had waited on average, and how much of their time so many servers served
abbrev pub mean_line : Tally → List ℕ
mean_line t = codes "mean wait " ++ fraction_text t.waited t.begun ++ 10 ∷ []

abbrev pub use_line : Tally → ℕ → ℕ → List ℕ
use_line t servers ticks = codes "utilisation " ++ fraction_text (t.ends - t.begins) (product ticks servers) ++ 10 ∷ []

-- all of it
abbrev pub results : Tally → ℕ → ℕ → List ℕ
results t servers ticks = count_line (codes "customers ") t.came
    ++ count_line (codes "lost ") t.lost
    ++ mean_line t
    ++ use_line t servers ticks
    ++ bar_lines t.width 0 t.bars

-- ---- the picture

-- the highest bar, which is 1 at least
abbrev pub highest : List ℕ → ℕ
highest bars = fold max 1 bars

-- how high a bar is drawn, where the highest is 200 high
abbrev pub drawn : ℕ → ℕ → ℕ
drawn most n = min (n * 200 / most) 200

-- a bar
abbrev pub rect_line : ℕ → ℕ → ℕ → List ℕ
rect_line most bar n = codes "<rect x=\"" ++ (decimal (product bar 20)
    ++ (codes "\" y=\"" ++ (decimal (200 - drawn most n)
    ++ (codes "\" width=\"16\" height=\"" ++ (decimal (drawn most n)
    ++ (codes "\"/>" ++ 10 ∷ []))))))

-- from that bar on
abbrev pub rect_lines : ℕ → ℕ → List ℕ → List ℕ
rect_lines most bar [] = []
rect_lines most bar (n ∷ ns) = rect_line most bar n ++ rect_lines most (bar + 1) ns

abbrev pub picture : Tally → List ℕ
picture t = codes "<svg xmlns=\"http://www.w3.org/2000/svg\" width=\"640\" height=\"200\">" ++ (10 ∷ [])
    ++ (rect_lines (highest t.bars) 0 t.bars ++ (codes "</svg>" ++ 10 ∷ []))
