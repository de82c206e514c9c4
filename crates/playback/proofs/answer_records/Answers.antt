-- `playback::answer_records` meets its contract: before each turn, what all records come to is what the rest come to from there on. Assumes
-- nothing.
use Rattle.std.proofs.Common.{rules}
use native.Mathlib.Omega.{arith}
use mathlib.Core.Path.{refl, sym, ap, ◌∙◌}
use Rattle.frames.specs.Lent.{tables_in}
use Rattle.playback.specs.Playback.{Playing, playing}
use Rattle.playback.specs.Steps.Going.{progress_with}
use Rattle.playback.proofs.Records.{Found, found, begins, ends, goes_on, one_at}
use Rattle.playback.proofs.answer_records.Goals as goal

pub loop-call-init : goal.loop-call-init
loop-call-init c =
    (begins c.args.bytes.now (playing c.args.start c.args.out.now (tables_in c.args.tables.now)), (refl, refl, refl, refl), refl)

pub answer_one-p-requires : goal.answer_one-p-requires
answer_one-p-requires c =
    let state : Playing = playing (progress_with c.loop-call.p c.loop-call.areas c.loop-call.out.length) c.loop-call.out.buffer.now (tables_in c.loop-call.tables) in
    let there : Found c.args.bytes.now state c.in-Ok.call c.in-Ok.size = found c.args.bytes.now (sym c.next_record.ensures ∙ c.in-Ok.is) in
    let within = there.within in
    let g = c.well_formed in
    (there.room, omega arith)

pub loop-call-smaller : goal.loop-call-smaller
loop-call-smaller c =
    let state : Playing = playing (progress_with c.loop-call.p c.loop-call.areas c.loop-call.out.length) c.loop-call.out.buffer.now (tables_in c.loop-call.tables) in
    let there : Found c.args.bytes.now state c.in-Ok.call c.in-Ok.size = found c.args.bytes.now (sym c.next_record.ensures ∙ c.in-Ok.is) in
    let within = there.within in
    let moved_on = ap (λ (s : Playing). s.progress.at) c.answer_one-p.ensures.answered ∙ one_at state c.in-Ok.call c.in-Ok.size in
    omega arith

pub loop-call-preserved : goal.loop-call-preserved
loop-call-preserved c =
    let start_of : Playing = playing c.args.start c.args.out.now (tables_in c.args.tables.now) in
    let state : Playing = playing (progress_with c.loop-call.p c.loop-call.areas c.loop-call.out.length) c.loop-call.out.buffer.now (tables_in c.loop-call.tables) in
    let i = c.loop-call.invariant in
    let same = c.answer_one-p.ensures.same in (
      rw c.answer_one-p.ensures.answered (goes_on c.args.bytes.now start_of i.0 (sym c.next_record.ensures ∙ c.in-Ok.is)),
      search rules,
      search rules,
    )

pub returns-clause-answered : goal.returns-clause-answered
returns-clause-answered c =
    let start_of : Playing = playing c.args.start c.args.out.now (tables_in c.args.tables.now) in
    let ended = ends c.args.bytes.now start_of c.loop-call.invariant.0 (sym c.next_record.ensures ∙ c.in-Err.is) in
    let same = c.loop-call.invariant.2 in
    search rules
