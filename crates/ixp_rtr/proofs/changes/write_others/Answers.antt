use Rattle.std.proofs.Common.{◌≡◌, ◌+◌, ◌∷◌, ◌++◌, [], cond, not, take, drop, get_or, map, sym, ap, ◌∙◌, subst, arith}
use Rattle.std.specs.List.{AllByRecursion}
use Rattle.std.proofs.lemmas.List.{drop_more}
use Rattle.ixp_num_tables.specs.Tables.{Ascends}
use Rattle.ixp_num_sorted.specs.Keys.{roa_key}
use Rattle.ixp_io.specs.Told.{Takes}
use Rattle.ixp_rtr.specs.Batches.{gathered}
use Rattle.ixp_io.proofs.Streams.{Takes-then}
use Rattle.ixp_rtr.specs.declared.pdu.Pdu.TheVariants.{Prefix}
use Rattle.ixp_rtr.specs.Pdus.{pdus_bytes}
use Rattle.ixp_rtr.specs.Changes.{is_among, others}
use Rattle.ixp_rtr.proofs.Merging.{later, bytes_more}
use Rattle.ixp_rtr.proofs.changes.write_others.Goals as goal

pub loop-roa-preserved : goal.loop-roa-preserved
loop-roa-preserved g c =
    let told = g.L.Stream in
    let set = c.args.set.now in
    let than = c.args.than.now in
    let i = c.loop-roa.roa-index in
    let roa = c.roa-item.result in
    let pdu = Prefix c.args.announces in
    let at = get_or set i roa in
    let split : drop i set ≡ roa ∷ drop (i + 1) set = drop_more set i roa c.loop-roa-test.true ∙ ap (λ r. r ∷ drop (i + 1) set) (sym c.roa-item.is) in
    let up : Ascends roa_key (roa ∷ drop (i + 1) set) = subst (Ascends roa_key) split c.loop-roa.invariant.set in
    let same : AllByRecursion (λ r. is_among than r ≡ is_among c.loop-roa.left.now r) (roa ∷ drop (i + 1) set)
    = subst (AllByRecursion (λ r. is_among than r ≡ is_among c.loop-roa.left.now r)) split c.loop-roa.invariant.same in
    let among : c.pass-among.result.0 ≡ is_among than roa = c.pass-among.ensures.among ∙ sym same.0 in
    let wrote : Takes (gathered (told.written c.loop-roa.link) c.loop-roa.batch) (gathered (told.written c.write_if.new.link) c.write_if.new.batch) (pdus_bytes (map pdu (cond (not (is_among than roa)) (roa ∷ []) [])))
    = subst (λ b. Takes (gathered (told.written c.loop-roa.link) c.loop-roa.batch) (gathered (told.written c.write_if.new.link) c.write_if.new.batch) (pdus_bytes (map pdu (cond (not b) (roa ∷ []) [])))) among c.in_ok-write_if.ensures.ok in
    let bytes : pdus_bytes (map pdu (others (take (i + 1) set) than)) ≡ pdus_bytes (map pdu (others (take i set) than)) ++ pdus_bytes (map pdu (cond (not (is_among than roa)) (roa ∷ []) []))
    = bytes_more pdu set than i roa c.loop-roa-test.true
    ∙ ap (λ r. pdus_bytes (map pdu (others (take i set) than)) ++ pdus_bytes (map pdu (cond (not (is_among than r)) (r ∷ []) []))) (sym c.roa-item.is) in
    record {
      takes = subst (Takes (gathered (told.written c.args.link.now) c.args.batch.now) (gathered (told.written c.write_if.new.link) c.write_if.new.batch)) (sym bytes)
          (Takes-then (gathered (told.written c.args.link.now) c.args.batch.now) (gathered (told.written c.loop-roa.link) c.loop-roa.batch)
          (gathered (told.written c.write_if.new.link) c.write_if.new.batch) (pdus_bytes (map pdu (others (take i set) than)))
          (pdus_bytes (map pdu (cond (not (is_among than roa)) (roa ∷ []) []))) c.loop-roa.invariant.takes wrote);
      set = up.1;
      rest = c.pass-among.ensures.ascends;
      same = later than c.loop-roa.left.now c.pass-among.result.1.now roa (drop (i + 1) set) up.0 same.1 c.pass-among.ensures.rest;
      counts = omega (arith, c.write_if.ensures.counts);
      left = grind arith;
      read_faults = grind arith;
    }
