-- How a session ends, by how its link ended.
use Rattle.std.specs.Prelude.{ℕ, ◌==◌, if◌then◌else◌}
use Rattle.ixp_http_link.specs.declared.ends.LinkEnd.{LinkEnd}
use Rattle.ixp_http_link.specs.declared.ends.LinkEnd.TheVariants as link
use Rattle.ixp_http_link.specs.declared.ends.Served.{Served}
use Rattle.ixp_cli_plain.specs.declared.end.End.{End}
use Rattle.ixp_cli_plain.specs.declared.end.End.TheVariants.{Done, ReadFault, WriteFault, NoMemory, BadLink}
use Rattle.ixp_cli_plain.specs.declared.end.LinkCode.{LinkCode}
use Rattle.ixp_cli_plain.specs.declared.end.LinkCode.TheVariants.{H1, H2, H3, H4, H5, S1}

-- the code of a message that is no request, by the status of its reply
abbrev pub code_of : ℕ → LinkCode
code_of status = if status == 431 then H2 else if status == 413 then H3 else if status == 501 then H4 else H1

-- how a session ends, by how its link ended
abbrev pub end_by : LinkEnd → ℕ → End
end_by link.Closed n = Done
end_by (link.BadMessage status) n = BadLink (code_of status) n
end_by link.Cut n = BadLink H5 n
end_by link.Spent n = BadLink S1 n
end_by link.ReadFault n = ReadFault
end_by link.WriteFault n = WriteFault
end_by link.NoMemory n = NoMemory

abbrev pub end_of : Served → End
end_of served = end_by served.end served.requests
