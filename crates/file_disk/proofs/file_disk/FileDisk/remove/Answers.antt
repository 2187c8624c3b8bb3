use Rattle.file_disk.proofs.Views.{primary_same, secondary_same}
use Rattle.file_disk.proofs.file_disk.FileDisk.remove.Goals as goal

pub returns-in-Primary : goal.returns-in-Primary
returns-in-Primary g c =
    primary_same c.args.self.now.primary c.remove.new.self c.args.self.now.secondary c.args.self.now.log.calls c.remove.ensures.faults
    c.remove.ensures.flights

pub returns-in-Secondary : goal.returns-in-Secondary
returns-in-Secondary g c =
    secondary_same c.args.self.now.secondary c.remove-in-Secondary.new.self c.args.self.now.primary c.args.self.now.log.calls
    c.remove-in-Secondary.ensures.faults c.remove-in-Secondary.ensures.flights
