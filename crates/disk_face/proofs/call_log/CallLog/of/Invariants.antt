use Rattle.disk_face.proofs.call_log.CallLog.of.Given as goal

abbrev pub ghost-made : goal.ghost-made
ghost-made g a = (g.D.Disk.view a._first.now).calls
