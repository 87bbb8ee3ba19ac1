pub mod LogDet
