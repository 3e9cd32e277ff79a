use Rattle.receipts.proofs.moment.Moment.now.Given as goal

abbrev pub ghost-beside : goal.ghost-beside
ghost-beside g a = g.D.Device.moment a._device.now
