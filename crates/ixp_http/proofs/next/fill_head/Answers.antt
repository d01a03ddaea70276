use Rattle.std.proofs.Common.{◌≡◌, ℕ, true, false, List, refl, sym, ap, ◌∙◌, arith}
use Rattle.ixp_http.specs.Heads.{is_open, start_of}
use Rattle.ixp_http.proofs.Starts.{settled, settled_done}
use Rattle.ixp_http.proofs.Quiet.{one_read, small_holds}
use Rattle.ixp_http.proofs.Together.{taken_all, together_none, together_then}
use Rattle.ixp_http.proofs.next.fill_head.Goals as goal

pub returns-then-not-is_open-clause-settled : goal.returns-then-not-is_open-clause-settled
returns-then-not-is_open-clause-settled g c =
    let is : c.start_of-start.result ≡ start_of c.loop-start.buf = cc (c.start_of-start.ensures.exact, c.as_slice.ensures) in
    settled (g.L.Stream.left c.loop-start.link) c.loop-start.buf c.start_of-start.result is (grind arith)

pub returns-then-not-branch-clause-together : goal.returns-then-not-branch-clause-together
returns-then-not-branch-clause-together g c =
    let told = g.L.Stream in
    together_then (told.left c.args.link.now) (told.left c.loop-start.link) (told.left c.read_line.new.link) c.args.buf.now c.loop-start.buf
    c.read_line.new.buf c.loop-start.invariant.together c.in_ok-read_line.ensures.together

pub returns-then-not-branch-clause-settled : goal.returns-then-not-branch-clause-settled
returns-then-not-branch-clause-settled g c =
    let is : c.start_of.result ≡ start_of c.read_line.new.buf = cc (c.start_of.ensures.exact, c.as_slice-then-not-branch.ensures) in
    settled_done (g.L.Stream.left c.read_line.new.link) c.read_line.new.buf c.start_of.result is (c.in_ok-read_line.ensures.done (grind arith))

-- what is held was settled, and yet it is read on
contradicts : {X : Type 0} (at now : List ℕ) → is_open (start_of now) ≡ true → (is_open (start_of at) ≡ false → now ≡ at) → is_open (start_of at) ≡ false → X
contradicts at now going same closed =
    let bad : true ≡ false = sym going ∙ (ap (λ (b : List ℕ). is_open (start_of b)) (same closed) ∙ closed) in
    absurd (let none : ⊥ = cc in none)

pub returns-then-not-is_open-clause-still : goal.returns-then-not-is_open-clause-still
returns-then-not-is_open-clause-still g c = c.loop-start.invariant.still

pub returns-then-not-is_open-clause-same : goal.returns-then-not-is_open-clause-same
returns-then-not-is_open-clause-same g c = c.loop-start.invariant.same

pub returns-then-not-is_open-clause-bounded : goal.returns-then-not-is_open-clause-bounded
returns-then-not-is_open-clause-bounded g c = c.loop-start.invariant.bounded

pub returns-in_err-read_line-clause-still : goal.returns-in_err-read_line-clause-still
returns-in_err-read_line-clause-still g c =
    let going : is_open (start_of c.loop-start.buf) ≡ true = cc (c.start_of-start.ensures.exact, c.as_slice.ensures, c.is_open.ensures, c.if-not-is_open.false) in
    contradicts c.args.buf.now c.loop-start.buf going c.loop-start.invariant.same

pub returns-in_err-read_line-clause-same : goal.returns-in_err-read_line-clause-same
returns-in_err-read_line-clause-same g c =
    let going : is_open (start_of c.loop-start.buf) ≡ true = cc (c.start_of-start.ensures.exact, c.as_slice.ensures, c.is_open.ensures, c.if-not-is_open.false) in
    contradicts c.args.buf.now c.loop-start.buf going c.loop-start.invariant.same

pub returns-then-not-branch-clause-still : goal.returns-then-not-branch-clause-still
returns-then-not-branch-clause-still g c =
    let going : is_open (start_of c.loop-start.buf) ≡ true = cc (c.start_of-start.ensures.exact, c.as_slice.ensures, c.is_open.ensures, c.if-not-is_open.false) in
    contradicts c.args.buf.now c.loop-start.buf going c.loop-start.invariant.same

pub returns-then-not-branch-clause-same : goal.returns-then-not-branch-clause-same
returns-then-not-branch-clause-same g c =
    let going : is_open (start_of c.loop-start.buf) ≡ true = cc (c.start_of-start.ensures.exact, c.as_slice.ensures, c.is_open.ensures, c.if-not-is_open.false) in
    contradicts c.args.buf.now c.loop-start.buf going c.loop-start.invariant.same

pub loop-start-init : goal.loop-start-init
loop-start-init g c =
    let told = g.L.Stream in
    record {
      together = together_none (told.left c.args.link.now) c.args.buf.now;
      still = λ closed. refl;
      same = λ closed. refl;
      bounded = λ few. few;
      rest = λ few. small_holds c.args.buf.now (start_of c.args.buf.now) few;
      counts = omega arith;
      written = refl;
      write_faults = refl;
    }

pub returns-then-not-branch-clause-taken : goal.returns-then-not-branch-clause-taken
returns-then-not-branch-clause-taken g c few =
    let told = g.L.Stream in
    taken_all _ _ _ _ _
    (together_then (told.left c.args.link.now) (told.left c.loop-start.link) (told.left c.read_line.new.link) c.args.buf.now c.loop-start.buf
    c.read_line.new.buf c.loop-start.invariant.together c.in_ok-read_line.ensures.together)
    (omega (arith, c.in_ok-read_line.ensures.bounded))

pub returns-then-not-branch-clause-rest : goal.returns-then-not-branch-clause-rest
returns-then-not-branch-clause-rest g c few =
    let going : is_open (start_of c.loop-start.buf) ≡ true = cc (c.start_of-start.ensures.exact, c.as_slice.ensures, c.is_open.ensures, c.if-not-is_open.false) in
    one_read c.loop-start.buf c.read_line.new.buf going c.in_ok-read_line.ensures.quiet

pub loop-start-preserved : goal.loop-start-preserved
loop-start-preserved g c =
    let told = g.L.Stream in
    let held = c.loop-start.invariant in
    let read = c.in_ok-read_line.ensures in
    let going : is_open (start_of c.loop-start.buf) ≡ true = cc (c.start_of-start.ensures.exact, c.as_slice.ensures, c.is_open.ensures, c.if-not-is_open.false) in
    record {
      together = together_then (told.left c.args.link.now) (told.left c.loop-start.link) (told.left c.read_line.new.link) c.args.buf.now
          c.loop-start.buf c.read_line.new.buf held.together read.together;
      still = contradicts c.args.buf.now c.loop-start.buf going held.same;
      same = contradicts c.args.buf.now c.loop-start.buf going held.same;
      bounded = λ few. omega (arith, read.bounded);
      rest = λ few. one_read c.loop-start.buf c.read_line.new.buf going read.quiet;
      counts = omega (arith, held.counts, read.counts);
      written = read.written ∙ held.written;
      write_faults = read.write_faults ∙ held.write_faults;
    }
