-- `regions::reader::read_regions` meets its contract: a reader begins, and each turn reads one region more. Assumes nothing.
use mathlib.Core.Path.{◌≡◌, refl, sym, ap, ◌∙◌}
use lib.ListN.{length}
use borrow.Author.Tests.{lt-ltb}
use Rattle.std.proofs.Common.{rules}
use Rattle.answer.specs.Answers.{number_of}
use Rattle.text.specs.Reading.{refuses, gives}
use Rattle.regions.specs.Outcome.{regions_in}
use Rattle.regions.specs.Result.{result_of, padded}
use Rattle.regions.specs.Steps.Progress.{held}
use Rattle.regions.specs.Text.{most_text, regions}
use Rattle.regions.proofs.Listing.{begins, reads_few, reads_on, reads_end, reads_refused}
use Rattle.regions.proofs.reader.read_regions.Goals as goal

pub returns-then-text-gt-MOST_TEXT : goal.returns-then-text-gt-MOST_TEXT
unfolding regions
returns-then-text-gt-MOST_TEXT c = rw (lt-ltb most_text (length c.args.text.now) c.if-text-gt-MOST_TEXT.true)

pub loop-region-init : goal.loop-region-init
loop-region-init c =
    let none = c.none-known in
    record { same = refl; reading = begins c.args.text.now none.result c.if-text-gt-MOST_TEXT.false none.ensures.count none.ensures.list }

pub returns-in_err-region : goal.returns-in_err-region
returns-in_err-region c =
    let l = c.loop-region in
    let e = c.in_err-region.field-0.0 in
    let same : regions_in c.from_residual.result ≡ refuses (number_of e.refusal) e.place = search rules in
    same ∙ sym (ap result_of (reads_refused c.args.text.now l.known l.reader.place l.invariant.reading c.as_slice.result.now l.reader.text.now c.as_slice.ensures l.invariant.same (number_of e.refusal) e.place c.in_err-region.ensures.read))

pub push-requires : goal.push-requires
push-requires c =
    let l = c.loop-region in
    reads_few c.args.text.now l.known l.reader.place l.invariant.reading c.as_slice.result.now l.reader.text.now c.as_slice.ensures l.invariant.same c.in-Some.region c.next.new.self.place (rw c.in-Some.is at c.in_ok-region.ensures.read)

pub loop-region-preserved : goal.loop-region-preserved
loop-region-preserved c =
    let l = c.loop-region in
    record {
      same = ap (λ r. r.now) c.next.ensures.text ∙ l.invariant.same;
      reading = reads_on c.args.text.now l.known l.reader.place l.invariant.reading c.as_slice.result.now l.reader.text.now c.as_slice.ensures l.invariant.same c.in-Some.region c.next.new.self.place (rw c.in-Some.is at c.in_ok-region.ensures.read) c.push.new.self c.push.ensures.count c.push.ensures.list;
    }

pub returns : goal.returns
returns c =
    let l = c.loop-region in
    let all : regions c.args.text.now ≡ gives (held l.known) c.next.new.self.place =
    reads_end c.args.text.now l.known l.reader.place l.invariant.reading c.as_slice.result.now l.reader.text.now c.as_slice.ensures l.invariant.same c.next.new.self.place
    (rw c.in_default.is at c.in_ok-region.ensures.read) in
    let count : l.known.count ≡ length (held l.known) = l.invariant.reading.count in
    let list : l.known.list ≡ padded (held l.known) = l.invariant.reading.list in
    rw all (cc)
