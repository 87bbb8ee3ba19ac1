-- The warnings in words.
use Rattle.std.specs.Prelude.{ℕ, cond, List, [], ◌∷◌, ◌++◌, Option, Some, None, codes, find}
use Rattle.text_buffer.specs.Text.{joined}
use Rattle.refit_options.specs.Words.{value_name_text}
use Rattle.refit_warnings.specs.declared.findings.Warning.{Warning}
use Rattle.refit_warnings.specs.declared.findings.Warning.TheVariants.{Unmoved, Search, Fit, Step, Nothing, Few, Low, High, Alone, Quadrature}
use Rattle.refit_warnings.specs.Warnings.{FindingsLists, warns}

-- all warnings, the gravest first
abbrev pub all_warnings : List Warning
all_warnings =
    Unmoved 0 ∷ Unmoved 1 ∷ Unmoved 2 ∷ Unmoved 3 ∷ Search ∷ Fit ∷ Step ∷ Nothing ∷ Few ∷ Low ∷ High ∷ Alone ∷ Quadrature ∷ []

-- what is wrong; of a value that did not move its name stands before
unfoldable pub what_of : Warning → List ℕ
what_of (Unmoved i) = codes " did not move from its start"
what_of Search = codes "The search over theta did not converge"
what_of Fit = codes "The fit did not converge"
what_of Step = value_name_text 1 2 ++ codes " ended at its floor, 1e-06: the curve is a step"
what_of Nothing = codes "The curve comes no nearer to the readings than a constant for each canister: it explains nothing"
what_of Few = codes "There are no more readings than values to be found, or fewer doses than the curve has values"
what_of Low = codes "theta lies at the lower end of the searched range: the best theta may be smaller"
what_of High = codes "theta lies at the upper end of the searched range: the best theta may be larger"
what_of Alone = codes "There is one canister only, so that theta and the spread mean nothing"
what_of Quadrature = codes "Quadrature follows the published Rust, whose correction moves theta far away from where other programs find it"

-- what to do
unfoldable pub remedy_of : Warning → List ℕ
remedy_of (Unmoved i) = codes "Do not use these numbers. From this start the readings told nothing of it: give another one (--start), or try another --curve."
remedy_of Search = codes "Do not use these numbers. Look for a reading that is far off, give start values (--start), or try another --curve."
remedy_of Fit = codes "Do not use these numbers. Look for a reading that is far off, give start values (--start), or try another --curve."
remedy_of Step = codes "Do not use these numbers. Do the readings fall with the dose? Give start values (--start), or try another --curve."
remedy_of Nothing = codes "Do not use these numbers. Give start values (--start), or try another --curve or --effect."
remedy_of Few = codes "Do not use these numbers: a curve can be laid through almost anything then. Weigh more doses."
remedy_of Low = codes "The canisters differ too little to be told apart: their own curves are nearly that of all canisters."
remedy_of High = codes "Each canister's curve stands nearly alone. Is each name one canister, and was each weighed at several doses?"
remedy_of Alone = codes "The curve does not depend on them. To learn how much canisters differ, weigh a second one."
remedy_of Quadrature = codes "Leave --quadrature out unless you want just those numbers."

unfoldable pub warned_value_text : ℕ → Warning → List ℕ
warned_value_text code (Unmoved i) = value_name_text code i
warned_value_text code _ = []

unfoldable pub warning_line_text : ℕ → Warning → List ℕ
warning_line_text code w = joined (codes "  *** " ∷ warned_value_text code w ∷ what_of w ∷ codes " ***\n      " ∷ remedy_of w ∷ codes "\n" ∷ [])

-- a line for each warning
unfoldable pub warned_text : FindingsLists → Warning → List ℕ
warned_text r w = cond (warns r w) (warning_line_text r.subject.code w) []

unfoldable pub warning_lines_for : FindingsLists → List Warning → List ℕ
warning_lines_for r [] = []
warning_lines_for r (w ∷ ws) = warned_text r w ++ warning_lines_for r ws

unfoldable pub warning_lines_text : FindingsLists → List ℕ
warning_lines_text r = warning_lines_for r all_warnings

-- the gravest warning
unfoldable pub first_warning : FindingsLists → Option Warning
first_warning r = find (warns r) all_warnings

-- what a picture's title says, by the gravest warning
unfoldable pub warning_title : Option Warning → List ℕ
warning_title None = codes ": what was weighed, and each canister's fitted curve"
warning_title (Some (Unmoved i)) = codes ": <tspan fill=\"#b00020\">DO NOT USE THIS FIT: a value did not move from its start</tspan>"
warning_title (Some Search) = codes ": <tspan fill=\"#b00020\">DO NOT USE THIS FIT: the search did not converge</tspan>"
warning_title (Some Fit) = codes ": <tspan fill=\"#b00020\">DO NOT USE THIS FIT: it did not converge</tspan>"
warning_title (Some Step) = codes ": <tspan fill=\"#b00020\">DO NOT USE THIS FIT: the curve is a step</tspan>"
warning_title (Some Nothing) = codes ": <tspan fill=\"#b00020\">DO NOT USE THIS FIT: it explains nothing</tspan>"
warning_title (Some Few) = codes ": <tspan fill=\"#b00020\">DO NOT USE THIS FIT: too few readings</tspan>"
warning_title (Some Low) = codes ": the fitted curves; theta at the lower end of its range"
warning_title (Some High) = codes ": the fitted curves; theta at the upper end of its range"
warning_title (Some Alone) = codes ": the fitted curve; one canister only, so no theta"
warning_title (Some Quadrature) = codes ": the fitted curves; theta by the Rust's quadrature"
