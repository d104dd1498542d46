-- What a reading returns to a host: the answer in the document's numbers.
use Rattle.std.specs.Prelude.{Result}
use Rattle.read_answers.specs.declared.Reading.{Reading}
use Rattle.read_answers.specs.declared.ReadFault.{ReadFault}
use Rattle.read_answers.specs.ReadNumbers.{read_number, read_id, read_value}
use Rattle.reply.specs.Reply.{read_process}
use Rattle.host_reply.specs.declared.HostReply.{HostReply}

abbrev pub host_reply : Result Reading ReadFault → HostReply
host_reply r = record { number = read_number r; id = read_id r; value = read_value r; process = read_process r }
