use Rattle.std.proofs.Common.{inl, inr, arith}
use Rattle.gta_meaning.proofs.ByNumber.{end-number, prefix-at, suffix-at}
use Rattle.gta_meaning.proofs.numbered.push_candidate.Goals as goal

pub overflow_cast-number : goal.overflow_cast-number
overflow_cast-number c =
    let within = end-number c.args.shape c.args.rows c.args.labels c.args.count c.args.number (inl c.in-Prefixes.is)
    c.requires.count c.requires.in_range in
    omega (arith, within, c.ranges.rows.fits)

pub push_run-requires : goal.push_run-requires
push_run-requires c =
    let within = end-number c.args.shape c.args.rows c.args.labels c.args.count c.args.number (inl c.in-Prefixes.is)
    c.requires.count c.requires.in_range in
    omega (arith, within, c.ranges.rows.fits)

pub overflow_cast-number-in-Suffixes : goal.overflow_cast-number-in-Suffixes
overflow_cast-number-in-Suffixes c =
    let within = end-number c.args.shape c.args.rows c.args.labels c.args.count c.args.number (inr c.in-Suffixes.is)
    c.requires.count c.requires.in_range in
    omega (arith, within, c.ranges.rows.fits)

pub overflow_sub-rows : goal.overflow_sub-rows
overflow_sub-rows c =
    end-number c.args.shape c.args.rows c.args.labels c.args.count c.args.number (inr c.in-Suffixes.is)
    c.requires.count c.requires.in_range

pub overflow_cast-number-in-Suffixes-2 : goal.overflow_cast-number-in-Suffixes-2
overflow_cast-number-in-Suffixes-2 c =
    let within = end-number c.args.shape c.args.rows c.args.labels c.args.count c.args.number (inr c.in-Suffixes.is)
    c.requires.count c.requires.in_range in
    omega (arith, within, c.ranges.rows.fits)

pub push_run-requires-in-Suffixes : goal.push_run-requires-in-Suffixes
push_run-requires-in-Suffixes c =
    let within = end-number c.args.shape c.args.rows c.args.labels c.args.count c.args.number (inr c.in-Suffixes.is)
    c.requires.count c.requires.in_range in
    omega (arith, within, c.ranges.rows.fits)

pub returns-in-Prefixes : goal.returns-in-Prefixes
returns-in-Prefixes c =
    let within = end-number c.args.shape c.args.rows c.args.labels c.args.count c.args.number (inl c.in-Prefixes.is)
    c.requires.count c.requires.in_range in
    rw (c.in-Prefixes.is, prefix-at c.args.rows c.args.number within) c.push_run.ensures

pub returns-in-Suffixes : goal.returns-in-Suffixes
returns-in-Suffixes c =
    let within = end-number c.args.shape c.args.rows c.args.labels c.args.count c.args.number (inr c.in-Suffixes.is)
    c.requires.count c.requires.in_range in
    rw (c.in-Suffixes.is, suffix-at c.args.rows c.args.number within) c.push_run-in-Suffixes.ensures
