-- What is written name by name is what the definition writes of all names.
use Rattle.std.proofs.Common.{◌≡◌, take}
use Rattle.std.proofs.lemmas.List.{take_all}
use Rattle.std.proofs.lemmas.List.Folds.{flat_map-map}
use Rattle.text_lines.specs.Lines.{right_text}
use Rattle.refit_tables.specs.Tables.{heads_text}
use Rattle.refit_tables.proofs.heads.Goals as goal

pub returns : goal.returns
unfolding heads_text
returns c =
    let names = c.value_names-names.result.now in
    let all : take c.loop-name.name-index names ≡ names = take_all c.loop-name.name-index names c.loop-name-test.false in
    let same = flat_map-map (right_text 13) (λ w. w.now) names in
    cc
