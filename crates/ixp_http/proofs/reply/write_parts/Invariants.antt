use Rattle.std.proofs.Common.{◌≡◌, ◌≤◌, drop, map}
use Rattle.ixp_http.specs.Replies.{concat, text_of}
use Rattle.ixp_http.proofs.Writes.{Owes}
use Rattle.ixp_http.proofs.reply.write_parts.Given as goal

abbrev pub invariant-loop-part : goal.invariant-loop-part
invariant-loop-part g l =
    let told = g.L.Stream in
    record {
      owes : Owes (told.written l.fn.link) (told.written l.link) l.held.items (concat (map (text_of l.reply) (drop l.part-index l.parts)))
          (concat (map (text_of l.reply) l.parts));
      counts : told.write_faults l.fn.link ≤ told.write_faults l.link;
      left : told.left l.link ≡ told.left l.fn.link;
      read_faults : told.read_faults l.link ≡ told.read_faults l.fn.link;
    }
