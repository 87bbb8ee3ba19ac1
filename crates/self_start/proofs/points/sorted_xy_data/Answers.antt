-- Of finite readings none is a NaN, nor is a mean of their grams.
use Rattle.std.proofs.Common.{◌≡◌, ◌≤◌, length, ap, ◌∙◌, arith}
use Rattle.std.specs.List.{zip}
use Rattle.std.proofs.lemmas.Slice.Zip.{length-zip}
use Rattle.sorting.specs.Sort.{sort_of}
use Rattle.self_start.specs.Points.{finite_pairs}
use Rattle.self_start.proofs.Grams.{readings_sortable, points_numbered}
use Rattle.self_start.proofs.points.sorted_xy_data.Goals as goal

pub sort-requires : goal.sort-requires
sort-requires c =
    let readings = zip c.args.doses.now c.args.grams.now in
    rw c.finite_pairs-readings.ensures (readings_sortable readings (omega (arith, length-zip c.args.doses.now c.args.grams.now, c.requires.within_longest)))

pub average-requires : goal.average-requires
average-requires c =
    let readings = zip c.args.doses.now c.args.grams.now in
    let s = readings_sortable readings (omega (arith, length-zip c.args.doses.now c.args.grams.now, c.requires.within_longest)) in
    rw (c.sort.auto.pairs, c.finite_pairs-readings.ensures) s.within_longest

pub invariant_of-result : goal.invariant_of-result
invariant_of-result c =
    let readings = zip c.args.doses.now c.args.grams.now in
    let s = readings_sortable readings (omega (arith, length-zip c.args.doses.now c.args.grams.now, c.requires.within_longest)) in
    let e : c.sort.new.pairs ≡ sort_of (finite_pairs readings) = c.sort.ensures ∙ ap (λ l. sort_of l) c.finite_pairs-readings.ensures in
    let few : length (sort_of (finite_pairs readings)) ≤ 512 = omega (arith, ap length e, c.sort.auto.pairs, ap length c.finite_pairs-readings.ensures, s.within_longest) in
    record { numbered = rw (c.average.ensures, e) (points_numbered readings few) }
