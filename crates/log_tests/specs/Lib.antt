pub mod OwnLaws
pub mod Rising
pub mod RisingLaws
