pub mod Schedules
pub mod Registers
pub mod Sitting
pub mod Rotas
