-- The fields that are printed.
use Rattle.ixp_rows_lines.specs.declared.printing.Shown.{Shown}
use Rattle.ixp_rows_lines.specs.declared.printing.Shown.TheVariants as shows
use Rattle.ixp_num.specs.declared.family.Family.TheVariants.{V4}
use Rattle.ixp_rows_lines.specs.Fields.{Field, Number, Octet, Word, Free, Secret, Handle, Address}
use Rattle.ixp_rows_lines.specs.Lines.{address_field, net_field, bounds_field, action_word}

abbrev pub shown : Shown → Field
shown (shows.Number n) = Number n
shown (shows.Octet n) = Octet n
shown (shows.Word word) = Word word.now
shown (shows.Free t) = Free t.now
shown (shows.Secret t) = Secret t.now
shown (shows.Handle t) = Handle t.now
shown (shows.Address a) = address_field a
shown (shows.Identifier n) = Address V4 n
shown (shows.Net p) = net_field p
shown (shows.Bounds p) = bounds_field p
shown (shows.Action action) = Word (action_word action)
