use Rattle.std.proofs.Common.{◌≡◌, ◌∙◌, ◌-◌, ℕ, List, take, drop, length, arith}
use Rattle.ixp_http.specs.Heads.{line_feeds}
use Rattle.ixp_http.proofs.Quiet.{no_feeds, quiet_more}
use Rattle.ixp_http.proofs.Together.{together_then}
use Rattle.ixp_http.proofs.next.read_line.Goals as goal

pub returns-clause-bounded : goal.returns-clause-bounded
returns-clause-bounded g c = c.loop-buf.invariant.bounded

pub loop-buf-preserved : goal.loop-buf-preserved
loop-buf-preserved g c =
    let told = g.L.Stream in
    let new : List ℕ = c.read_more.new.self in
    let held = c.loop-buf.invariant in
    let read = c.in_ok-count.ensures in
    let none : line_feeds (take (length new - length c.loop-buf.buf) (drop (length c.loop-buf.buf) new)) ≡ 0 =
    no_feeds new c.as_slice.result.now c.len-before.result (length c.loop-buf.buf) c.has_feed.result c.as_slice.ensures c.len-before.ensures
    c.has_feed.ensures c.if-has_feed.false in
    record {
      together = together_then (told.left c.args.link.now) (told.left c.loop-buf.link) (told.left c.read_more.new.link) c.args.buf.now c.loop-buf.buf
          new held.together read.together;
      quiet = quiet_more c.args.buf.now c.loop-buf.buf new held.quiet read.grows none;
      grows = grind (arith, held.grows, read.more);
      bounded = grind (arith, c.loop-buf-test.true, c.len.ensures, read.chunk);
      counts = omega (arith, held.counts, read.counts);
      written = read.written ∙ held.written;
      write_faults = read.write_faults ∙ held.write_faults;
    }
