pub mod ErrorsRespond
