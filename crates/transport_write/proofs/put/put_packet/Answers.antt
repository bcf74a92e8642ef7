-- `transport_write::put::put_packet` meets its contract.
use Rattle.transport_write.proofs.Laws.Packets.{packet_laid}
use Rattle.transport_write.proofs.put.put_packet.Goals as goal

pub returns : goal.returns
returns c =
    let a = c.args in
    packet_laid
    a.pid
    a.start
    a.counter
    a.bytes.now
    c.requires.3
    a.out.now
    a.at
    c.requires.4
    c.copy_at.new.out
    c.copy_at-2.new.out
    c.copy_at.ensures
    c.copy_at-2.ensures
