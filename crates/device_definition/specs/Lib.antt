-- THE WRITTEN DEFINITION OF THE DEVICE (02, CR 10): the judge behind registers, over the definition of plain files.
pub mod Coinwise
pub mod Device
-- Cases: theorems by computation, and no part of the definition.
pub mod DeviceCases
